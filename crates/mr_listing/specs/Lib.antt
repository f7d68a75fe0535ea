pub mod Accesses
pub mod Events
pub mod Freed
pub mod Held
pub mod Leaks
pub mod Partners
pub mod Races
pub mod Rests
pub mod Seen
pub mod Sorted
pub mod Spoken
pub mod Spots
pub mod Steps
pub use Rattle.mr_report.specs.Report as ReportReport
