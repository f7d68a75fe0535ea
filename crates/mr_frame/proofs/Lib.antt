pub mod ActedLaws
pub mod AlignPowers
pub mod AskLaws
pub mod BeginLaws
pub mod BeginSteps
pub mod BeginWhole
pub mod CallLaws
pub mod CallRuns
pub mod CallSafe
pub mod CallStands
pub mod CalleeLaws
pub mod ChangeRuns
pub mod ChangesSafe
mod Common
pub mod DoLaws
pub mod DoSafe
pub mod EndLaws
pub mod EndSafe
pub mod EnterLaws
mod Examples
pub mod FittingLaws
pub mod FrameSafe
pub mod Frames
pub mod InsideLaws
pub mod IntrinsicLaws
pub mod LiveLaws
pub mod Places
pub mod PlainLaws
pub mod PointedLaws
pub mod QuietChanges
pub mod ResultFits
pub mod StackLaws
pub mod StandLaws
pub mod Statements
pub mod StorageLaws
pub mod StorageSteps
pub mod SwitchRuns
pub mod SwitchSafe
pub mod TagLaws
pub mod TermLaws
pub mod ToldLaws
pub mod TypeRows
pub use Rattle.mr_plan.proofs.AccessBounds as PlanAccessBounds
pub use Rattle.mr_plan.proofs.ElementLaws as PlanElementLaws
pub use Rattle.mr_plan.proofs.Headers as PlanHeaders
pub use Rattle.mr_plan.proofs.IdentityCases as PlanIdentityCases
pub use Rattle.mr_plan.proofs.LegalLaws as PlanLegalLaws
pub use Rattle.mr_plan.proofs.ListPlaces as PlanListPlaces
pub use Rattle.mr_plan.proofs.MemoryAnswers as PlanMemoryAnswers
pub use Rattle.mr_plan.proofs.MemoryFacts as PlanMemoryFacts
pub use Rattle.mr_plan.proofs.MemoryLocal as PlanMemoryLocal
pub use Rattle.mr_plan.proofs.MemoryMoves as PlanMemoryMoves
pub use Rattle.mr_plan.proofs.MemoryParts as PlanMemoryParts
pub use Rattle.mr_plan.proofs.Outcomes as PlanOutcomes
pub use Rattle.mr_plan.proofs.Positions as PlanPositions
pub use Rattle.mr_plan.proofs.QuietRuns as PlanQuietRuns
pub use Rattle.mr_plan.proofs.RangeChecks as PlanRangeChecks
pub use Rattle.mr_plan.proofs.ReadingRuns as PlanReadingRuns
pub use Rattle.mr_plan.proofs.Rooms as PlanRooms
pub use Rattle.mr_plan.proofs.RunLaws as PlanRunLaws
pub use Rattle.mr_plan.proofs.StorageRuns as PlanStorageRuns
pub use Rattle.mr_plan.proofs.StoreLaws as PlanStoreLaws
pub use Rattle.mr_plan.proofs.TallyGrows as PlanTallyGrows
pub use Rattle.mr_plan.proofs.WentLaws as PlanWentLaws
pub use Rattle.mr_typing.proofs.KindLaws as TypingKindLaws
