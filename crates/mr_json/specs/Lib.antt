pub mod Accesses
pub mod Parts
pub mod Run
pub mod Steps
