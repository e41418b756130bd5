mod Answering
pub mod Apart
mod CellKinds
mod ColumnLists
mod Crosses
mod IndexLists
mod KindLists
mod PairCauses
mod Starting
