pub mod AnswerLaws
pub mod EndingLaws
pub mod Examples
pub mod InputLaws
pub mod RefusedLaws
