pub mod Applied
pub mod SideEntries
pub mod Visible
