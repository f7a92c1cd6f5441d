pub mod Arcs
pub mod Walk
