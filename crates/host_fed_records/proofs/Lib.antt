pub mod Putting
pub mod Walking
pub mod Walks
pub mod Answers
pub mod Beginning
pub mod Parts
