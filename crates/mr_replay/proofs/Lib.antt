mod Common
pub mod StandLaws
pub mod ToldLaws
