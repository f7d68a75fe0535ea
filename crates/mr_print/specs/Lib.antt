pub mod Appends
pub mod Calls
