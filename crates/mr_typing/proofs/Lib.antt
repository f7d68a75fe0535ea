pub mod BrokenInLaws
mod Common
pub mod ExprWalk
pub mod JudgedLaws
pub mod KindLaws
pub mod KnownLaws
pub mod KnownSizes
pub mod NothingLaws
pub mod PartLaws
pub mod SameTypeLaws
pub mod StmtWalk
pub mod Tells
pub mod TypeLaws
pub mod TypedLaws
pub mod TypedStmts
pub mod UnbrokenLaws
pub mod WrittenOk
