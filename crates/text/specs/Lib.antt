pub mod Pieces
pub mod Decimal
pub mod Hex
pub mod Pages
