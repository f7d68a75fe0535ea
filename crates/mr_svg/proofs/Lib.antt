pub mod Appended
pub mod ReadLaws
