pub mod Shapes
pub mod Acts
pub mod Kept
