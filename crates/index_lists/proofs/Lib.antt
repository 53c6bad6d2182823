pub mod Slots
pub mod Adding
pub mod Right
pub mod Indexes
