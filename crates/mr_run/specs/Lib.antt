pub mod Records
pub mod Runs
pub mod Witnesses
pub use Rattle.mr_event.specs.Footprint as EventFootprint
pub use Rattle.mr_step.specs.Answers as StepAnswers
pub use Rattle.mr_step.specs.ExchangeWitness
pub use Rattle.mr_step.specs.PlanLegal as StepPlanLegal
pub use Rattle.mr_step.specs.PlanMachine as StepPlanMachine
pub use Rattle.mr_step.specs.PlanNotes as StepPlanNotes
pub use Rattle.mr_step.specs.PlanQueries as StepPlanQueries
pub use Rattle.mr_step.specs.PlanRuns as StepPlanRuns
pub use Rattle.mr_step.specs.Standing as StepStanding
pub use Rattle.mr_step.specs.StartRuns
pub use Rattle.mr_step.specs.SwapMeets as StepSwapMeets
pub use Rattle.mr_witness.specs.EveryOrder as WitnessEveryOrder
pub use Rattle.mr_witness.specs.Shuffled as WitnessShuffled
pub use Rattle.mr_witness.specs.FrameFrames
pub use Rattle.mr_witness.specs.StartStart
pub use Rattle.mr_witness.specs.StartSteps
