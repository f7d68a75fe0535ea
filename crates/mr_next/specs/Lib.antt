pub mod Coming
pub mod Culprits
pub mod Prospects
pub mod Reached
pub mod Texts
