pub mod Packs
pub mod Back
