pub mod Fronts
pub mod Leading
pub mod Losers
pub mod Merging
pub mod Places
pub mod Tournaments
