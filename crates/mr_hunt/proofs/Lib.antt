pub mod AimLaws
mod Common
pub mod EndLaws
mod Examples
pub mod RunFaults
pub mod SeenLaws
pub mod TableLaws
