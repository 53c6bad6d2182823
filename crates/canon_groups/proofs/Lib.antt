pub mod Raws
pub mod Bits
pub mod Table
