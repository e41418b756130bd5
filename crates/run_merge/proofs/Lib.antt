pub mod Fronts
pub mod Games
pub mod InOrder
pub mod Numbers
pub mod Order
pub mod Places
pub mod Replays
pub mod Steps
