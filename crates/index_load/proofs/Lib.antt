pub mod Columns
pub mod ColumnsApart
pub mod Crosses
pub mod LoadRan
pub mod Merges
pub mod SpoolPlaces
pub mod SpoolsSeen
pub mod TakenOut
