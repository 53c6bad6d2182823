pub mod Items
pub mod Alexa
