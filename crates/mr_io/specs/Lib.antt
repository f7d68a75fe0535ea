pub mod Counts
pub mod Drawer
pub mod Files
pub mod Host
pub mod Tray
