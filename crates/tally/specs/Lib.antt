pub mod Groups
pub mod Relation
pub mod Adding
