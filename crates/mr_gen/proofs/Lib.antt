mod Common
pub mod Examples
pub mod GeneratedLaws
pub mod Growing
pub mod MainBlocks
pub mod NameLaws
pub mod NoFaults
pub mod ShapedParts
pub mod ShapedProgram
pub mod UnbrokenParts
pub mod UnbrokenProgram
