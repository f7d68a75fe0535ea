pub mod Chains
mod Common
pub mod Each
pub mod Edges
pub mod Kept
pub mod KeyLaws
pub mod KeyLists
pub mod Linking
pub mod Longer
pub mod MarkLaws
pub mod MemoLaws
pub mod Noting
pub mod Parts
pub mod RowLaws
pub mod SkipLaws
pub mod SpanLaws
pub mod WakerLaws
pub mod Wholes
