pub mod ArrowLaws
pub mod ClearLaws
mod Common
pub mod Counts
pub mod InsideLaws
pub mod LegendLaws
pub mod LinkLaws
pub mod Marks
pub mod Members
pub mod NameLaws
pub mod Room
pub mod RowLaws
pub mod SceneLaws
pub mod Turns
pub mod WayLaws
pub mod Within
pub mod WitnessLaws
