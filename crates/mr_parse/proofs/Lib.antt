mod Common
pub mod FunctionLaws
pub mod ParseLaws
pub mod Walk
pub use Rattle.mr_grammar.proofs.ParsingLaws as GrammarParsingLaws
