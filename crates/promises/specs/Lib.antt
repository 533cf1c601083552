pub mod Histories
pub mod Figure1
pub mod Demand1
pub mod Demand2
pub mod Demand3
pub mod Figures
pub mod Shams
pub mod Promises
