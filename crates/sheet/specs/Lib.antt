pub mod Lines
pub mod Words
pub mod Listings
pub mod Bounds
pub mod Calls
pub mod Turns
