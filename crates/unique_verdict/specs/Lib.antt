pub mod Counting
pub mod Holders
pub mod Shared
pub mod Verdicts
