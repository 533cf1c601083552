pub mod Lines
pub mod Shape
pub mod Hands
pub mod Owned
