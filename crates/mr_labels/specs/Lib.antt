pub mod Index
pub mod Names
pub mod Table
pub mod Words
