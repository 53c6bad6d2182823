pub mod Round
pub mod Dyadic
pub mod Halves
pub mod Patterns
pub mod Constants
pub mod Whole
pub mod Narrows
pub mod Exact
