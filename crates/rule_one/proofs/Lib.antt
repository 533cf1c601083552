pub mod Loops
pub mod Meets
