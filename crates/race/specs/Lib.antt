pub mod Builds
pub mod OneLog
pub mod Races
pub mod Resting
pub mod Rows
pub mod Sessions
pub mod Commands
