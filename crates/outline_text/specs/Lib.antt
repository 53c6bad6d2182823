pub mod Tree
pub mod Opening
pub mod Outline
pub mod Text
pub mod Said
