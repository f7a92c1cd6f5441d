pub mod Spare
pub mod Flags
pub mod Places
pub mod Steps
