mod Begins
pub mod KeyedPairs
mod LabelNames
mod Planned
mod SharedLines
mod SpecLists
pub mod Statuses
mod TakenBack
