mod Causes
mod Counts
pub mod Crosses
mod Deciding
mod DuePieces
mod Entries
mod FirstColumns
mod Looking
mod Pieces
mod Prepared
mod Rounds
mod Shapes
mod SharedRows
mod Switches
mod Tables
mod Unfed
