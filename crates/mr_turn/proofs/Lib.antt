pub mod AskAnswers
pub mod CarryAnswers
mod Common
pub mod DoAnswers
pub mod DoTurns
pub mod FrameAnswers
pub mod FrameTurns
pub mod PlanAsks
pub mod QuietNeeds
pub mod SpawnAnswers
pub mod SpawnTurns
pub mod ThreadTypes
pub mod Threads
pub use Rattle.mr_intr.proofs.EachOperation as IntrEachOperation
