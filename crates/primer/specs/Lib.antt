pub mod Primer
pub mod LastWins
