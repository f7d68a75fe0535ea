pub mod Boards
pub mod Calm
pub mod Chosen
mod Common
pub mod Copied
pub mod Drawn
pub mod EveryOrder
mod Examples
pub mod Expressions
pub mod Fewer
pub mod Frames
pub mod Kept
pub mod Lists
pub mod Moves
pub mod Needed
pub mod OrderMoves
pub mod OrderReplayed
pub mod Queries
pub mod Recorded
pub mod RecordedPlaces
pub mod Replayed
pub mod Runs
pub mod ShortChosen
pub mod ShortWitness
pub mod Shown
pub mod Steps
pub use Rattle.mr_exchange.proofs.First as ExchangeFirst
pub use Rattle.mr_exchange.proofs.Lists as ExchangeLists
pub use Rattle.mr_exchange.proofs.StartPlanLegalLaws as PlanLegalLaws
