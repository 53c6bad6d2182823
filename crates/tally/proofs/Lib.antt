pub mod Grouped
pub mod Steps
pub mod Laws
pub mod Lent
pub mod Relation
