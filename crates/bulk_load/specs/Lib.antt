pub mod Each
pub mod Headed
pub mod Streams
