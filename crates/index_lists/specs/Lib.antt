pub mod Apart
pub mod Indexes
