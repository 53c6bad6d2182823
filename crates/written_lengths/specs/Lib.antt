pub mod Form
pub mod Wrote
pub mod Back
