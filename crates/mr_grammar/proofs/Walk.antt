-- What reading computes against what the grammar spells.
pub mod BeginLaws
pub mod BracketLaws
pub mod CheckedLaws
pub mod CompleteLaws
pub mod Conditions
pub mod EnsureLaws
pub mod Fair
pub mod FairForms
pub mod FairJudges
pub mod HeightLaws
pub mod InsideLaws
pub mod Rows
pub mod Says
