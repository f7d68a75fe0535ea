pub mod Aims
pub mod Ends
pub mod Table
pub mod Texts
