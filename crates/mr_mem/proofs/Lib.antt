mod Common
pub mod Examples
pub mod Identities
pub mod IndexLaws
pub mod LeastLaws
pub mod Meetings
pub mod Powers
pub mod PutLaws
pub mod RangeLaws
pub mod SpanLaws
pub mod SpeakingLaws
pub mod Views
