pub mod Spoken
pub mod Stands
pub mod Told
