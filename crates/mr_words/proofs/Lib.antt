pub mod BracketCounts
mod Common
pub mod EndLaws
pub mod NamingLaws
pub mod PlaceLaws
pub mod ScopeLaws
pub mod TableLaws
pub mod TextLaws
pub use Rattle.mr_base.proofs.Comparisons as BaseComparisons
pub use Rattle.mr_base.proofs.Options as BaseOptions
