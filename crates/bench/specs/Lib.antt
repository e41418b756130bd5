pub mod Columns
pub mod Dealt
pub mod Phases
pub mod SpoolPages
pub mod Verdicts
