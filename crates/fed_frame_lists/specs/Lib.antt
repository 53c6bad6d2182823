pub mod Run
pub mod Frames
