pub mod Sights
pub mod Escapes
pub mod Stacks
