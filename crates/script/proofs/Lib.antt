pub mod Scripts
pub mod Lawful
pub mod Frames
pub mod Reader
pub mod Writer
pub mod Round
pub mod Acts
pub mod Forward
