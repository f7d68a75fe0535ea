pub mod Accesses
pub mod Identities
pub mod Limits
pub mod Pairs
pub mod Reasons
pub mod Script
pub mod Stops
pub mod TraceRules
