pub mod Brackets
pub mod Defined
pub mod Naming
pub mod Numbers
pub mod Places
pub mod TextFaults
pub use Rattle.mr_ast.specs.Words as AstWords
