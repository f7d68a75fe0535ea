pub mod Denotes
pub mod Faults
pub mod Insides
pub mod Parsing
pub mod Reading
pub use Rattle.mr_words.specs.Defined as WordsDefined
pub use Rattle.mr_words.specs.Places as WordsPlaces
