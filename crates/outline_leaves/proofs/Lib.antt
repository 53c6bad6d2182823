pub mod Leaf
pub mod Values
pub mod Leaves
