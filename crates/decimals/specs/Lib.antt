pub mod Decimal
pub mod Back
