pub mod Begin
pub mod Judging
pub mod Pieces
pub mod Runs
pub mod SoundState
pub mod Start
pub mod Steps
pub use Rattle.mr_eval.specs.Evaluation as EvalEvaluation
pub use Rattle.mr_eval.specs.MemoryQueries as EvalMemoryQueries
pub use Rattle.mr_eval.specs.Operators as EvalOperators
pub use Rattle.mr_eval.specs.Reads as EvalReads
pub use Rattle.mr_eval.specs.Tally as EvalTally
pub use Rattle.mr_eval.specs.Typed as EvalTyped
pub use Rattle.mr_frame.specs.Calls as FrameCalls
pub use Rattle.mr_frame.specs.Changes as FrameChanges
pub use Rattle.mr_frame.specs.Fits as FrameFits
pub use Rattle.mr_frame.specs.Frames as FrameFrames
pub use Rattle.mr_frame.specs.Operations as FrameOperations
pub use Rattle.mr_frame.specs.PlanLegal
pub use Rattle.mr_frame.specs.PlanLimits
pub use Rattle.mr_frame.specs.PlanMachine
pub use Rattle.mr_frame.specs.PlanNotes
pub use Rattle.mr_frame.specs.PlanPlaces
pub use Rattle.mr_frame.specs.PlanQueries
pub use Rattle.mr_frame.specs.PlanRuns
pub use Rattle.mr_frame.specs.Sites as FrameSites
pub use Rattle.mr_frame.specs.Steps as FrameSteps
pub use Rattle.mr_frame.specs.Switches as FrameSwitches
pub use Rattle.mr_intr.specs.Operations as IntrOperations
pub use Rattle.mr_intr.specs.Texts as IntrTexts
pub use Rattle.mr_mem.specs.Memory as MemMemory
pub use Rattle.mr_sync.specs.Tables as SyncTables
pub use Rattle.mr_typing.specs.Types as TypingTypes
pub use Rattle.mr_typing.specs.Walk as TypingWalk
