pub mod Applying
pub mod Batches
pub mod Built
