mod Crosses
mod EmptySpools
mod Gathering
mod PassedOver
mod RolledBack
mod TakenBack
pub mod Whole
