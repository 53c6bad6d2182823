pub mod Items
pub mod Told
pub mod After
