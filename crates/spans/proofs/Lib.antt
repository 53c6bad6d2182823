pub mod Agree
pub mod Items
pub mod Rules
pub mod Step
