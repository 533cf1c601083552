pub mod Scripts
pub mod Legal
pub mod Frames
pub mod Meaning
pub mod Alone
pub mod RoundTrips
