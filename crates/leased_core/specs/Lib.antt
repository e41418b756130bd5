pub mod Leasing
