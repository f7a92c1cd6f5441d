pub mod Trailers
pub mod Images
pub mod Records
pub mod Listing
