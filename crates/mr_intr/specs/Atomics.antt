-- Atomic accesses to integers, as the code makes them.
use Rattle.std.specs.Prelude.{ℕ, true, [], Option, None, Some, Result, Ok, Err}
use Rattle.mr_ast.specs.declared.program.Intrinsic.{Intrinsic}
use Rattle.mr_ast.specs.declared.program.Intrinsic.TheVariants as intrinsic
use Rattle.mr_base.specs.declared.byte.Pointer.{Pointer}
use Rattle.mr_base.specs.declared.reason.Reason.{Reason}
use Rattle.mr_base.specs.declared.reason.Reason.TheVariants.{InvalidValue}
use Rattle.mr_base.specs.declared.reached.Reaching.{Reaching}
use Rattle.mr_base.specs.declared.reached.Reaching.TheVariants.{Changes}
use Rattle.mr_base.specs.Stops.{reached_by}
use Rattle.mr_mem.specs.Memory.{Memory, written}
use Rattle.mr_base.specs.Script.{Outcome, Went, on}
use Rattle.mr_value.specs.Numbers.{number_of}
use Rattle.mr_eval.specs.MemoryQueries.{number_bytes}
use Rattle.mr_eval.specs.Reads.{Seen, accessing, answered, lending, seeing}

-- a fetch
abbrev pub IsFetch : Intrinsic → Type 0
IsFetch intrinsic.FetchAdd = Unit {0}
IsFetch intrinsic.FetchSub = Unit {0}
IsFetch intrinsic.FetchAnd = Unit {0}
IsFetch intrinsic.FetchOr = Unit {0}
IsFetch intrinsic.FetchXor = Unit {0}
IsFetch _ = ⊥

-- 107 where bytes are no number
abbrev pub numbered : Option ℕ → Result ℕ Reason
numbered None = Err InvalidValue
numbered (Some n) = Ok n

-- the number that so many bytes are, read atomically, with which this is done
abbrev pub number_read : Memory → Reaching → Pointer → ℕ → Seen → Outcome ℕ Seen
number_read m doing p size s =
    on (lending m doing true p size size s)
    (λ bytes s'. answered (reached_by doing p size) (numbered (number_of bytes)) (λ n. Went n s'))

-- a number put as so many bytes, stored atomically, where the range was checked
abbrev pub number_written : Memory → Pointer → ℕ → ℕ → Seen → Outcome Memory Seen
number_written m p size n s =
    answered (reached_by Changes p size) (written m p (number_bytes size n) size)
    (λ after. Went after (seeing (accessing true true p size) [] s))
