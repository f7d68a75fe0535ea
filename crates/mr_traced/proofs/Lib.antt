pub mod AloneLaws
pub mod Chains
mod Common
pub mod CountLaws
pub mod DrawnLaws
mod Examples
pub mod GroupLaws
pub mod Made
pub mod MapLaws
pub mod OneGroup
