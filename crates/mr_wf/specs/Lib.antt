pub mod Answers
pub mod Gives
pub mod JudgingPrograms
pub mod Listed
pub mod Seen
