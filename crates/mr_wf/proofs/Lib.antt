mod Common
pub mod GivesLaws
pub mod IntrinsicLaws
pub mod ListedLaws
pub mod PositionLaws
pub mod ProgramWalk
pub mod ShortPrograms
pub mod SoundTypes
pub mod SwitchLaws
