pub mod AloneLaws
mod Common
pub mod PairLaws
pub mod StandingLaws
pub mod ToldLaws
