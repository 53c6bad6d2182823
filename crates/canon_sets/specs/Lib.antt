pub mod Package
pub mod Told
