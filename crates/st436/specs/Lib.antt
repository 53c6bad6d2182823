pub mod Lines
pub mod Payload
pub mod Told
