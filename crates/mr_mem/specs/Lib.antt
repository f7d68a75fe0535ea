pub mod Memory
pub mod Spans
pub mod Stored
