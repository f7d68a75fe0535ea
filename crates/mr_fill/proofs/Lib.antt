pub mod Appended
mod Common
pub mod FilledLaws
pub mod FilledSoFar
pub mod Fillings
pub mod GivenLeft
pub mod GivenPicks
pub mod GivenSteps
pub mod OrderLaws
pub mod Parts
pub mod SpelledLaws
pub mod ToldLaws
pub mod TurnLaws
