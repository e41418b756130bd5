pub mod Examples
pub mod Looks
pub mod PageCauses
pub mod Told
