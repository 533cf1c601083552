pub mod Shape
pub mod Blanks
