pub mod DepthLaws
pub mod ListLaws
pub mod WholeLaws
