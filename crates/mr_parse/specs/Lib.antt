pub mod Gives
pub mod Postfixes
pub mod ReaderGives
pub mod ReaderViews
pub mod Views
pub use Rattle.mr_grammar.specs.Faults as GrammarFaults
pub use Rattle.mr_grammar.specs.Parsing as GrammarParsing
