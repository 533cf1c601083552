pub mod Known
pub mod Alike
pub mod Orders
