pub mod Decode
pub mod Discriminants
pub mod Encode
pub mod Faithful
pub mod Numbers
pub mod Shape
pub mod Spelled
