pub mod Arguments
pub mod Atomics
pub mod Effects
pub mod Heap
pub mod Needs
pub mod Operations
pub mod Printed
pub mod Texts
pub use Rattle.mr_sync.specs.Sound as SyncSound
pub use Rattle.mr_sync.specs.Tables as SyncTables
