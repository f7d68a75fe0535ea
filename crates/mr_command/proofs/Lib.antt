mod Common
pub mod EndLaws
pub mod Examples
pub mod HeadlineLaws
pub mod ListedLaws
pub mod MachineLaws
pub mod OnlyLaws
pub mod PromiseLaws
pub mod StatusLaws
pub mod TextLaws
pub mod TraceRuns
pub mod UnreadLaws
