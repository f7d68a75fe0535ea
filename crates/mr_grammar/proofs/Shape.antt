-- What a text denotes is shaped.
pub mod ShapedBlocks
pub mod ShapedLaws
pub mod ShapedNames
pub mod ShapedNumbers
pub mod ShapedPrograms
pub mod ShapedTypes
pub mod ShapedValues
pub mod SmallLaws
