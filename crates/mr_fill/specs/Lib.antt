pub mod Filled
pub mod Filling
pub mod Orders
pub mod Reading
pub mod Spelled
pub mod Told
pub mod Turning
