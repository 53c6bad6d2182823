pub mod Laws
pub mod Starting
pub mod Biting
pub mod Reaching
pub mod Breaking
pub mod Arriving
pub mod Once
