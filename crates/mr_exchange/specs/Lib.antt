pub mod Counted
pub mod Exchange
pub mod Limits
pub mod Meets
pub mod Shown
pub mod Spots
pub mod Swap
pub mod Trace
pub mod Witness
pub use Rattle.mr_mem.specs.Memory as MemMemory
pub use Rattle.mr_start.specs.Begin as StartBegin
pub use Rattle.mr_start.specs.FrameCalls as StartFrameCalls
pub use Rattle.mr_start.specs.FrameChanges as StartFrameChanges
pub use Rattle.mr_start.specs.FrameFits as StartFrameFits
pub use Rattle.mr_start.specs.FrameFrames as StartFrameFrames
pub use Rattle.mr_start.specs.FrameOperations as StartFrameOperations
pub use Rattle.mr_start.specs.FrameSites as StartFrameSites
pub use Rattle.mr_start.specs.FrameSteps as StartFrameSteps
pub use Rattle.mr_start.specs.FrameSwitches as StartFrameSwitches
pub use Rattle.mr_start.specs.IntrOperations as StartIntrOperations
pub use Rattle.mr_start.specs.IntrTexts as StartIntrTexts
pub use Rattle.mr_start.specs.PlanLegal
pub use Rattle.mr_start.specs.PlanLimits
pub use Rattle.mr_start.specs.PlanMachine
pub use Rattle.mr_start.specs.PlanNotes
pub use Rattle.mr_start.specs.PlanQueries
pub use Rattle.mr_start.specs.PlanRuns
pub use Rattle.mr_start.specs.Runs as StartRuns
pub use Rattle.mr_start.specs.SoundState as StartSoundState
pub use Rattle.mr_start.specs.Start as StartStart
pub use Rattle.mr_start.specs.Steps as StartSteps
pub use Rattle.mr_start.specs.SyncTables
