mod Common
pub mod EntryLaws
pub mod FirstLines
pub mod GroupLaws
pub mod LineLaws
pub mod LineOfLaws
pub mod Loops
pub mod Numerals
pub mod Parts
pub mod Pieces
pub mod TextLaws
pub mod VersionLaws
pub mod WordLaws
