pub mod Tables
pub mod Nets
pub mod Markings
pub mod Walks
