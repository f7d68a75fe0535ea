pub mod Json
pub mod Report
pub mod Sent
