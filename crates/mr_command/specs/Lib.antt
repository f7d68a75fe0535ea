pub mod Answer
pub mod Answering
pub mod Command
pub mod Headline
pub mod Named
pub mod Outcome
pub mod Promises
pub mod Showing
pub mod Traces
pub use Rattle.mr_answer.specs.Answers as AnswerAnswers
pub use Rattle.mr_gen.specs.Generated as GenGenerated
