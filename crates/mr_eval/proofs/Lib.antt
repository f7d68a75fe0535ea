pub mod CallLaws
mod Common
pub mod DiscSafe
pub mod Division
pub mod EvalRuns
pub mod EvaluationLaws
pub mod Examples
pub mod ExprSafe
pub mod ExprWeights
pub mod ExtendsLaws
pub mod FoundFits
pub mod GivesLaws
pub mod IntegerLaws
pub mod LoadRuns
pub mod NumberLaws
pub mod OperatorsSafe
pub mod OverflowTypes
pub mod OwnReasons
pub mod PartTypes
pub mod ReadLength
pub mod RecastLaws
pub mod ReferRuns
pub mod RefusedLaws
pub mod Residues
pub mod RowRuns
pub mod SafeLaws
pub mod SafeRuns
pub mod ScalarLaws
pub mod ScalarRuns
pub mod SearchRuns
pub mod ShapeOf
pub mod SoundParts
pub mod TargetLaws
pub mod Widths
pub mod Within
pub use Rattle.mr_mem.proofs.SpeakingLaws as MemSpeakingLaws
pub use Rattle.mr_value.proofs.DecodeShape as ValueDecodeShape
pub use Rattle.mr_value.proofs.EncodeLength as ValueEncodeLength
