pub mod Answers
pub mod Arith
pub mod Cast
pub mod Compare
pub mod Environment
pub mod Evaluated
pub mod Evaluation
pub mod MemoryQueries
pub mod Moves
pub mod Noted
pub mod Numbers
pub mod Operators
pub mod Plain
pub mod Reads
pub mod Scalars
pub mod Shapes
pub mod Shift
pub mod Sound
pub mod Stores
pub mod Tally
pub mod Typed
pub mod World
pub use Rattle.mr_mem.specs.Memory as MemMemory
pub use Rattle.mr_typing.specs.Types as TypingTypes
pub use Rattle.mr_typing.specs.Walk as TypingWalk
pub use Rattle.mr_value.specs.Numbers as ValueNumbers
