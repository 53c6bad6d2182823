pub mod Fields
pub mod Descriptor
