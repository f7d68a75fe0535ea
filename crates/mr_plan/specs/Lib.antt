pub mod Legal
pub mod Limits
pub mod Machine
pub mod Notes
pub mod Places
pub mod Queries
pub mod Runs
pub mod Safety
pub mod Storage
pub use Rattle.mr_eval.specs.MemoryQueries as EvalMemoryQueries
pub use Rattle.mr_eval.specs.Tally as EvalTally
pub use Rattle.mr_event.specs.Footprint as EventFootprint
