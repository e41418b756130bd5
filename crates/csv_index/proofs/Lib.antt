pub mod Found
pub mod Freed
pub mod Noting
pub mod Paged
pub mod Ran
pub mod Sizing
pub mod Taken
