-- What names stand for, in the grammar and among what a text defines.
pub mod DefinedTwice
pub mod DenotedNames
pub mod NamedBack
pub mod SameDefinitions
pub mod TwoScopes
