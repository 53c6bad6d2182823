pub mod Laws
pub mod Forms
pub mod Spans
pub mod Errors
