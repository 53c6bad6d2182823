pub mod Following
pub mod Walked
pub mod Files
pub mod Forms
