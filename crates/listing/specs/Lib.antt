pub mod Hash
pub mod Loads
