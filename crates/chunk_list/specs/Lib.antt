pub mod ChunkValue
pub mod Chunks
pub mod Filled
pub mod Left
pub mod Lends
pub mod Moves
pub mod Rest
