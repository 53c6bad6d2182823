pub mod Laws
pub mod Following
pub mod Once
