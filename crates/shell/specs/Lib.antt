pub mod Conversations
pub mod Counting
pub mod Inputs
