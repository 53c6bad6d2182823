pub mod Laws
pub mod Seeks
pub mod Answers
