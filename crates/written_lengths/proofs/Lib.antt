pub mod Sizes
pub mod Answers
pub mod Forms
pub mod Both
