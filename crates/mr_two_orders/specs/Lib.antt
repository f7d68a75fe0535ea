pub mod Bare
pub mod Pairs
pub mod Standing
pub mod Texts
