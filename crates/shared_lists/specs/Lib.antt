pub mod Fair
pub mod Scripts
pub mod Shares
