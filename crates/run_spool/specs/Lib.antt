pub mod Bytes
pub mod Frames
pub mod PagedSpools
pub mod Pages
pub mod PlainPages
pub mod Runs
pub mod Spools
pub mod Choices
