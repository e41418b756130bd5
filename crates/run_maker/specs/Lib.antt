pub mod FullSpools
pub mod ImagePairs
pub mod Making
pub mod Sharing
pub mod Spooling
