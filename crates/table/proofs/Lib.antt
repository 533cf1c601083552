pub mod Fitting
pub mod Steppings
pub mod Told
