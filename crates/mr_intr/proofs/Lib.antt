pub mod Arguments
pub mod AtomicLaws
pub mod AtomicRuns
mod Common
pub mod EachOperation
pub mod HeapLaws
pub mod Leaving
pub mod LockLaws
pub mod LockSafe
pub mod NeedLaws
pub mod OperatedLaws
pub mod Operates
pub mod OperationSafe
pub mod OwnReasons
pub mod TextLaws
pub use Rattle.mr_sync.proofs.SoundTables as SyncSoundTables
