pub mod Rounding
pub mod Quotients
pub mod Near
pub mod Exactly
