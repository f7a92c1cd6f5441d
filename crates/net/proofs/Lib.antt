pub mod Filling
pub mod Nets
pub mod Readiness
pub mod Finding
pub mod Choosing
