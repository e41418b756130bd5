pub mod Following
pub mod Indexes
pub mod KeyCauses
