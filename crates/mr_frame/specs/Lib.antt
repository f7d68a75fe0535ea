pub mod Acting
pub mod Beginning
pub mod Calling
pub mod Calls
pub mod Changes
pub mod Doing
pub mod Effects
pub mod Ending
pub mod Fits
pub mod Frames
pub mod Inside
pub mod Kept
pub mod Operations
pub mod Sites
pub mod Standing
pub mod Steps
pub mod Storage
pub mod Switches
pub mod Tops
pub use Rattle.mr_eval.specs.MemoryQueries as EvalMemoryQueries
pub use Rattle.mr_eval.specs.Operators as EvalOperators
pub use Rattle.mr_eval.specs.Reads as EvalReads
pub use Rattle.mr_eval.specs.Shapes as EvalShapes
pub use Rattle.mr_eval.specs.Sound as EvalSound
pub use Rattle.mr_eval.specs.Tally as EvalTally
pub use Rattle.mr_mem.specs.Memory as MemMemory
pub use Rattle.mr_plan.specs.EventFootprint
pub use Rattle.mr_plan.specs.Legal as PlanLegal
pub use Rattle.mr_plan.specs.Limits as PlanLimits
pub use Rattle.mr_plan.specs.Machine as PlanMachine
pub use Rattle.mr_plan.specs.Notes as PlanNotes
pub use Rattle.mr_plan.specs.Places as PlanPlaces
pub use Rattle.mr_plan.specs.Queries as PlanQueries
pub use Rattle.mr_plan.specs.Runs as PlanRuns
pub use Rattle.mr_plan.specs.Storage as PlanStorage
pub use Rattle.mr_typing.specs.Intrinsics as TypingIntrinsics
pub use Rattle.mr_typing.specs.Operands as TypingOperands
pub use Rattle.mr_typing.specs.Walk as TypingWalk
