pub mod Guarded
pub mod GuardLists
pub mod GuardSteps
pub mod KeyCounts
pub mod KeyRefusals
pub mod TxnGuards
pub mod UniqueKeys
