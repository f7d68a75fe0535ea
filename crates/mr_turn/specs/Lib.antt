pub mod Asking
pub mod Began
pub mod Doing
pub mod Turning
pub use Rattle.mr_intr.specs.Operations as IntrOperations
pub use Rattle.mr_intr.specs.Texts as IntrTexts
