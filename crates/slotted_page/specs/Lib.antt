pub mod Slot
pub mod Page
pub mod Rows
pub mod Entry
pub mod Image
pub mod Fields
