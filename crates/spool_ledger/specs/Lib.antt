pub mod Accounts
pub mod Pools
