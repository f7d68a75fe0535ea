pub mod FirstLaws
pub mod Taken
