pub mod Addresses
pub mod Among
mod Common
pub mod Drawings
pub mod DrawnSoFar
pub mod LegalRuns
pub mod Nexts
pub mod Picks
pub mod PicksLeft
pub mod StartFound
pub mod Starts
pub mod Steps
pub use Rattle.mr_start.proofs.RunLaws as StartRunLaws
