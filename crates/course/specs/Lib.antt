pub mod Words
pub mod Wants
pub mod Cases
pub mod Steps
