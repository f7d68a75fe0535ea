pub mod Answer
pub mod Ending
pub mod Form
pub mod Inputs
pub mod Numbers
pub mod Refusals
pub mod Writing
pub use Rattle.mr_report.specs.Report as ReportReport
