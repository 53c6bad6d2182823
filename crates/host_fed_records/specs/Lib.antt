pub mod Many
pub mod Begun
