pub mod Told
pub mod Listed
pub mod Tells
pub mod Next
pub mod Steps
pub mod Passed
