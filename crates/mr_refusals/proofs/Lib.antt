pub mod CaretLaws
pub mod FoundLaws
pub mod LineLaws
pub mod WordLaws
