pub mod AskLaws
mod Common
pub mod CompletedLaws
pub mod EntryLaws
pub mod FirstLaws
pub mod HandLaws
pub mod Numbered
pub mod PlaceLaws
pub mod SoundLaws
pub mod TakenLaws
pub use Rattle.mr_exchange.proofs.BareSteps as SwapBareSteps
pub use Rattle.mr_exchange.proofs.ElementTests as SwapElementTests
pub use Rattle.mr_exchange.proofs.FootLimits as ExchangeFootLimits
pub use Rattle.mr_exchange.proofs.Law as ExchangeLaw
pub use Rattle.mr_exchange.proofs.Lists as ExchangeLists
pub use Rattle.mr_exchange.proofs.MeetsLaws as SwapMeetsLaws
pub use Rattle.mr_exchange.proofs.Sane as ExchangeSane
pub use Rattle.mr_exchange.proofs.StartRunLaws
pub use Rattle.mr_exchange.proofs.StartStartSound
pub use Rattle.mr_exchange.proofs.StepRuns as SwapStepRuns
pub use Rattle.mr_exchange.proofs.Telling as ExchangeTelling
pub use Rattle.mr_frame.proofs.StorageSteps as FrameStorageSteps
pub use Rattle.mr_plan.proofs.ElementLaws as PlanElementLaws
pub use Rattle.mr_plan.proofs.IdentityCases as PlanIdentityCases
pub use Rattle.mr_plan.proofs.MemoryFacts as PlanMemoryFacts
pub use Rattle.mr_plan.proofs.RunLaws as PlanRunLaws
pub use Rattle.mr_plan.proofs.WentLaws as PlanWentLaws
pub use Rattle.mr_turn.proofs.IntrEachOperation
