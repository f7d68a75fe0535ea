pub mod AccessLaws
pub mod ChannelLaws
pub mod ClockLaws
mod Common
pub mod Examples
pub mod LoadLaws
pub mod MarkLaws
pub mod MemoLaws
pub mod OneList
pub mod OrderLaws
pub mod PartnerLaws
pub mod PlainLaws
pub mod RowLaws
pub mod StepLaws
pub mod TestLaws
pub mod TopLaws
