pub mod Sizes
pub mod Refusals
pub mod Sets
pub mod Owners
pub mod Settling
