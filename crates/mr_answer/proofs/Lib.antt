mod Common
pub mod Examples
pub mod PrintedLaws
pub mod Printing
pub mod ReorderedLaws
pub mod RunLaws
pub mod StatusLaws
pub mod TracedLaws
pub use Rattle.mr_auto.proofs.LegalRuns as AutoLegalRuns
