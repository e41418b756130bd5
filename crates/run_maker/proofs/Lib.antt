pub mod CopyPairs
pub mod EachIndex
pub mod FullSpools
pub mod Spoolings
pub mod Parts
