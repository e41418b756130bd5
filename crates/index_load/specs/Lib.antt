pub mod Columns
pub mod IndexLoad
