pub mod Answers
pub mod Report
pub mod Running
pub mod Spelled
pub use Rattle.mr_auto.specs.Drawing as AutoDrawing
