pub mod Queues
pub mod SlotTables
pub mod Seats
pub mod Tables
