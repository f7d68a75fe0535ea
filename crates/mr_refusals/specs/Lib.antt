pub mod Answers
pub mod Forms
pub mod Going
pub mod Heads
pub mod Lines
pub mod Schedules
pub mod Spots
pub mod Texts
