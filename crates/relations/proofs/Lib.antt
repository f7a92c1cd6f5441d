pub mod Reading
pub mod Linking
pub mod Repeats
pub mod Lists
pub mod Fitting
