pub mod AsciiLaws
pub mod Canon
mod Common
pub mod Names
pub mod ParsingLaws
pub mod Shape
pub mod Stops
pub mod Tokens
pub mod Walk
pub use Rattle.mr_words.proofs.BaseOptions
