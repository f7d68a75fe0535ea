pub mod AlikeLaws
pub mod Appended
mod Common
mod Examples
pub mod FreedLaws
pub mod GroupLaws
pub mod OnceLaws
pub mod PartnerLaws
pub mod RankLaws
pub mod SpotLaws
