pub mod AloneLaws
pub mod CheckedLaws
mod Common
pub mod EndLaws
pub mod FillLaws
pub mod FormLaws
pub mod HuntLaws
pub mod NameLaws
pub mod NextLaws
pub mod ShownLaws
pub mod TracedLaws
pub mod UnreadLaws
pub mod WitnessLaws
pub use Rattle.mr_input.proofs.EndingLaws as InputEndingLaws
