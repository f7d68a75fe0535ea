-- Where reading stops, and why no text goes on there.
pub mod BodyLaws
pub mod FlawLaws
pub mod LimitLaws
pub mod PartLaws
pub mod PieceLaws
pub mod Predictive
pub mod ProgramTold
pub mod Said
pub mod Samples
