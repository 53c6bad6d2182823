pub mod Klvs
pub mod Back
