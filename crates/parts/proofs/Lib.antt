pub mod Spans
pub mod Numbers
pub mod Parts
pub mod Cut
