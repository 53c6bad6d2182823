pub mod Kept
pub mod Held
pub mod Longest
pub mod GoingOn
pub mod Told
pub mod Since
pub mod Certain
