pub mod Items
pub mod Primer
pub mod Back
