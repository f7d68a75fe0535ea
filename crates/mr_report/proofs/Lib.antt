pub mod Examples
pub mod ExtendsLaws
pub mod PlainLaws
pub mod SentLaws
