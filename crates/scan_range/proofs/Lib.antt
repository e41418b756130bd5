pub mod Covered
pub mod Ends
pub mod EvenEnds
pub mod Going
pub mod Passed
