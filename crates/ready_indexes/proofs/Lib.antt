pub mod Crosses
pub mod Each
pub mod Follow
pub mod KeysAsked
pub mod KeysTaken
pub mod Prepared
