pub mod Opening
pub mod Going
pub mod Said
