pub mod Entries
pub mod High
pub mod Refused
