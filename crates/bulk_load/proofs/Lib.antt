pub mod Dealt
pub mod Heads
pub mod InOrder
pub mod Parts
pub mod Fronts
