-- The canonical text of a program denotes the program.
pub mod CanonForms
pub mod CanonItems
pub mod CanonNames
pub mod CanonPrograms
pub mod CanonStmts
pub mod CanonTypes
pub mod CanonValues
pub mod CanonWords
pub mod ReadsBackLaws
