mod Common
mod Examples
pub mod Growing
pub mod IndexLaws
