pub mod BareSteps
pub mod CallAnswers
pub mod Calls
pub mod Changes
pub mod Choices
mod Common
pub mod Counted
pub mod Editions
pub mod ElementTests
pub mod Exchanged
pub mod First
pub mod FootLimits
pub mod FrameSteps
pub mod FreeSteps
pub mod Independence
pub mod Intrinsics
pub mod Law
pub mod LegalEntries
pub mod LimitLaw
pub mod Lists
pub mod LocalCalls
pub mod Marks
pub mod MeetsLaws
pub mod Moves
pub mod Noted
pub mod OrderExamples
pub mod Parts
pub mod Placing
pub mod PushedLists
pub mod RangeLists
pub mod Rearranged
pub mod Rising
pub mod Sane
pub mod StatusFacts
pub mod Statuses
pub mod StepGrows
pub mod StepRuns
pub mod SwapExamples
pub mod SwapLaw
pub mod Telling
pub mod Tells
pub mod Threads
pub mod Tracked
pub mod Unordered
pub mod Witness
pub use Rattle.mr_start.proofs.FrameStatements as StartFrameStatements
pub use Rattle.mr_start.proofs.IntrEachOperation as StartIntrEachOperation
pub use Rattle.mr_start.proofs.PlanElementLaws
pub use Rattle.mr_start.proofs.PlanLegalLaws as StartPlanLegalLaws
pub use Rattle.mr_start.proofs.PlanMemoryAnswers
pub use Rattle.mr_start.proofs.PlanQuietRuns
pub use Rattle.mr_start.proofs.PlanWentLaws
pub use Rattle.mr_start.proofs.RunLaws as StartRunLaws
pub use Rattle.mr_start.proofs.RunSound as StartRunSound
pub use Rattle.mr_start.proofs.StartLimits as StartStartLimits
pub use Rattle.mr_start.proofs.StartSound as StartStartSound
