pub mod Noting
pub mod SideFiles
pub mod TableBuilds
