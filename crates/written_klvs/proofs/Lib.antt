pub mod Cases
pub mod Runs
pub mod Going
pub mod Same
pub mod Back
