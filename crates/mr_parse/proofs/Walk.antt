-- What reading computes against what the grammar spells.
pub mod LoopLaws
pub mod PostfixLaws
