pub mod Answers
pub mod Checks
pub mod Labels
pub mod Limits
pub mod Listings
pub mod Plans
pub mod Sessions
