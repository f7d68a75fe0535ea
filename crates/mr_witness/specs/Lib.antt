pub mod Board
pub mod EveryOrder
pub mod Marks
pub mod Short
pub mod Shuffled
pub use Rattle.mr_eval.specs.TypingWalk
pub use Rattle.mr_exchange.specs.StartFrameFits as FrameFits
pub use Rattle.mr_exchange.specs.StartFrameFrames as FrameFrames
pub use Rattle.mr_exchange.specs.PlanLegal
pub use Rattle.mr_exchange.specs.PlanMachine
pub use Rattle.mr_exchange.specs.PlanNotes
pub use Rattle.mr_exchange.specs.PlanQueries
pub use Rattle.mr_exchange.specs.PlanRuns
pub use Rattle.mr_exchange.specs.StartRuns
pub use Rattle.mr_exchange.specs.StartSoundState as ThreadSoundState
pub use Rattle.mr_exchange.specs.StartStart
pub use Rattle.mr_exchange.specs.StartSteps
