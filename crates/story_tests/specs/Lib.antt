pub mod ListSpools
