pub mod Gathering
pub mod Renewal
pub mod Moving
pub mod Firings
pub mod Requests
pub mod Running
pub mod Assigned
