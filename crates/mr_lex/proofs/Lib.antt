pub mod AnswerLaws
pub mod ByteLaws
mod Common
pub mod DecimalLaws
pub mod NumberLaws
pub mod PieceLaws
pub mod PlaceLaws
pub mod ReadingLaws
pub mod RowLaws
pub mod RunLaws
pub mod ScanLaws
pub mod ShapeLaws
pub mod SpanLaws
pub mod SplitLaws
