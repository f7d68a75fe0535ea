-- What a start comes to, as `mr_start` has it, for those who stand on this crate.
pub use Rattle.mr_start.specs.declared.beginning.Start.{Start}
pub use Rattle.mr_start.specs.declared.beginning.StartFault.{StartFault}
pub use Rattle.mr_start.specs.declared.beginning.StartFault.TheVariants.{Broken, Memory}
