pub mod Rules
pub mod Walk
pub mod Passed
pub mod Told
pub mod Ways
