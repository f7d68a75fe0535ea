pub mod Programs
pub mod Reasons
pub mod Schedules
pub mod Texts
pub mod Traces
pub mod Why
pub mod Words
