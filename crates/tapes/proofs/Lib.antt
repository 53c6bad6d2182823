pub mod Alike
pub mod Ends
mod Finding
