pub mod SharedFronts
pub mod Stands
pub mod Marked
pub mod Accounts
pub mod Chosen
