pub mod Examples
pub mod IllFormed
