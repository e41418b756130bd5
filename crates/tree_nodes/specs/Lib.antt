pub mod Fans
pub mod Found
pub mod Heads
pub mod Leaves
pub mod Lending
pub mod Lists
pub mod Order
