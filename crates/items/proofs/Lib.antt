pub mod Laws
pub mod Lists
pub mod From
pub mod Going
pub mod Codings
