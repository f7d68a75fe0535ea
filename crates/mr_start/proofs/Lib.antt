pub mod BareKept
pub mod Begun
mod Common
pub mod DoTurn
pub mod Entering
pub mod FrameTurn
pub mod Overlaps
pub mod PickLaws
pub mod PieceStores
pub mod PlacedLaws
pub mod RunLaws
pub mod RunSound
pub mod Settled
pub mod StartFacts
pub mod StartLimits
pub mod StartSound
pub mod StartStores
pub mod ThreadRooms
pub mod Turns
pub use Rattle.mr_frame.proofs.PlanAccessBounds
pub use Rattle.mr_frame.proofs.PlanElementLaws
pub use Rattle.mr_frame.proofs.PlanLegalLaws
pub use Rattle.mr_frame.proofs.PlanListPlaces
pub use Rattle.mr_frame.proofs.PlanMemoryAnswers
pub use Rattle.mr_frame.proofs.PlanMemoryFacts
pub use Rattle.mr_frame.proofs.PlanMemoryLocal
pub use Rattle.mr_frame.proofs.PlanMemoryMoves
pub use Rattle.mr_frame.proofs.PlanPositions
pub use Rattle.mr_frame.proofs.PlanQuietRuns
pub use Rattle.mr_frame.proofs.PlanRooms
pub use Rattle.mr_frame.proofs.PlanTallyGrows
pub use Rattle.mr_frame.proofs.PlanWentLaws
pub use Rattle.mr_frame.proofs.QuietChanges as FrameQuietChanges
pub use Rattle.mr_frame.proofs.Statements as FrameStatements
pub use Rattle.mr_frame.proofs.StorageSteps as FrameStorageSteps
pub use Rattle.mr_intr.proofs.EachOperation as IntrEachOperation
pub use Rattle.mr_mem.proofs.Identities as MemIdentities
pub use Rattle.mr_mem.proofs.RangeLaws as MemRangeLaws
