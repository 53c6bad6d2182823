pub mod Sums
pub mod Packs
pub mod Loops
pub mod Cameras
