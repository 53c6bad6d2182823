pub mod Records
pub mod Stepping
pub mod Passed
