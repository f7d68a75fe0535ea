pub mod Answers
pub mod Drawing
pub mod Drawn
pub use Rattle.mr_start.specs.FrameFrames as StartFrameFrames
pub use Rattle.mr_start.specs.Runs as StartRuns
pub use Rattle.mr_start.specs.Start as StartStart
pub use Rattle.mr_start.specs.Steps as StartSteps
