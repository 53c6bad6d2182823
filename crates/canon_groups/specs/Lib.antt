pub mod Fields
pub mod Groups
