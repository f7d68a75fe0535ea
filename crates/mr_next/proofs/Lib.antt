pub mod Appended
mod Common
pub mod CulpritLaws
pub mod Finding
pub mod ProspectLaws
pub mod ReachedLaws
