pub mod Advance
pub mod Answers
pub mod First
pub mod Kept
pub mod Settling
pub mod Standing
pub use Rattle.mr_eval.specs.MemoryQueries as EvalMemoryQueries
pub use Rattle.mr_eval.specs.Operators as EvalOperators
pub use Rattle.mr_eval.specs.Reads as EvalReads
pub use Rattle.mr_eval.specs.Typed as EvalTyped
pub use Rattle.mr_exchange.specs.Meets as SwapMeets
pub use Rattle.mr_exchange.specs.StartRuns
pub use Rattle.mr_exchange.specs.StartStart
pub use Rattle.mr_exchange.specs.StartSteps as ThreadSteps
pub use Rattle.mr_exchange.specs.Witness as ExchangeWitness
pub use Rattle.mr_frame.specs.Calls as FrameCalls
pub use Rattle.mr_frame.specs.Frames as FrameFrames
pub use Rattle.mr_frame.specs.Operations as FrameOperations
pub use Rattle.mr_frame.specs.Steps as FrameSteps
pub use Rattle.mr_mem.specs.Memory as MemMemory
pub use Rattle.mr_plan.specs.Legal as PlanLegal
pub use Rattle.mr_plan.specs.Machine as PlanMachine
pub use Rattle.mr_plan.specs.Notes as PlanNotes
pub use Rattle.mr_plan.specs.Queries as PlanQueries
pub use Rattle.mr_plan.specs.Runs as PlanRuns
pub use Rattle.mr_sync.specs.Tables as SyncTables
pub use Rattle.mr_turn.specs.IntrOperations
pub use Rattle.mr_turn.specs.IntrTexts
