pub mod Places
pub mod Turns
pub mod Layouts
pub mod Columns
