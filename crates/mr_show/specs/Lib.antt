pub mod Answer
pub mod Answering
pub mod Checked
pub mod Filled
pub mod Form
pub mod Gathered
pub mod Help
pub mod Hunted
pub mod Next
pub mod Outcome
pub mod Reached
pub mod Second
pub mod Seek
pub mod Sentences
pub mod Traced
pub mod Unread
pub mod Witness
pub use Rattle.mr_input.specs.Ending as InputEnding
pub use Rattle.mr_input.specs.Writing as InputWriting
