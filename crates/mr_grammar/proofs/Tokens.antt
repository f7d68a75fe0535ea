-- The words of a program are tokens of its text.
pub mod LexedWords
pub mod TokenRows
pub mod TokenTexts
