pub mod AppendLaws
mod Common
pub mod ProgramLaws
pub mod TypeLaws
pub mod ValueLaws
