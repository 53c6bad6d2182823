pub mod Takes
pub mod Differences
