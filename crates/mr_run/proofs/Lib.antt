pub mod Analysed
mod Common
pub mod EntryLaws
pub mod OneThread
pub mod Places
pub mod RunLaws
pub mod StepCount
pub use Rattle.mr_step.proofs.EntryLaws as StepEntryLaws
pub use Rattle.mr_step.proofs.ExchangeSane as StepExchangeSane
pub use Rattle.mr_step.proofs.ExchangeTelling as StepExchangeTelling
pub use Rattle.mr_step.proofs.PlanElementLaws as StepPlanElementLaws
pub use Rattle.mr_step.proofs.PlanIdentityCases as StepPlanIdentityCases
pub use Rattle.mr_step.proofs.PlanMemoryFacts as StepPlanMemoryFacts
pub use Rattle.mr_step.proofs.PlanRunLaws as StepPlanRunLaws
pub use Rattle.mr_step.proofs.StartRunLaws
pub use Rattle.mr_step.proofs.StartStartSound
pub use Rattle.mr_step.proofs.SwapBareSteps as StepSwapBareSteps
pub use Rattle.mr_step.proofs.SwapElementTests as StepSwapElementTests
pub use Rattle.mr_step.proofs.SwapMeetsLaws as StepSwapMeetsLaws
pub use Rattle.mr_step.proofs.SwapStepRuns as StepSwapStepRuns
pub use Rattle.mr_witness.proofs.Copied as WitnessCopied
pub use Rattle.mr_witness.proofs.Drawn as WitnessDrawn
pub use Rattle.mr_witness.proofs.ExchangeFirst
pub use Rattle.mr_witness.proofs.ExchangeLists
pub use Rattle.mr_witness.proofs.Kept as WitnessKept
pub use Rattle.mr_witness.proofs.Lists as WitnessLists
pub use Rattle.mr_witness.proofs.ShortWitness as WitnessShortWitness
