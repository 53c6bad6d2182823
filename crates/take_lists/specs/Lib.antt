pub mod Reports
pub mod Order
pub mod Holding
pub mod Samples
pub mod Fed
