-- What a run prints has digits, small letters, `-` and space alone.
pub mod Prints
pub mod Runs
pub mod Steps
