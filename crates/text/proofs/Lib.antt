pub mod Separators
pub mod Buffering
pub mod Digits
pub mod Numerals
pub mod Readings
pub mod Nibbles
