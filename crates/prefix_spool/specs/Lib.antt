pub mod Numbers
pub mod PrefixBytes
pub mod PrefixPages
pub mod Kinds
pub mod Faulty
