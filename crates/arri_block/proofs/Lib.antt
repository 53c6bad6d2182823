pub mod Laws
pub mod Ending
pub mod Once
