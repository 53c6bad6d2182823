pub mod Turning
pub mod Scripts
pub mod Columns
