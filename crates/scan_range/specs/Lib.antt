pub mod Cuts
pub mod Dealings
pub mod Ranges
