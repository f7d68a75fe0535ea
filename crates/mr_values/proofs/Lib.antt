mod Examples
pub mod SoFar
pub mod Standings
