pub mod Narrowing
pub mod Laws
