pub mod Joined
pub mod Standing
pub mod Frames
