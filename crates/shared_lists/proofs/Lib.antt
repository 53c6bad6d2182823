pub mod Rooms
pub mod Keeps
pub mod Sees
pub mod Layouts
pub mod Shares
