pub mod Order
pub mod Reports
pub mod Stepping
pub mod Holding
pub mod Samples
pub mod Fed
