-- Bytes of a trace that are too many.
use Rattle.mr_command.proofs.Common.{◌≡◌, ℕ, ◌<◌, ◌^◌, ap, ◌∙◌, refl, List, length, Some, Option, Err, races_in, shown}
use Rattle.mr_trace.specs.Reading.{races_of, trace_of}
use Rattle.mr_input.specs.declared.refusal.Refusal.TheVariants.{Trace}
use Rattle.mr_input.proofs.InputLaws.{less, longer}

long_races : (bytes : List ℕ) → 2 ^ 28 < length bytes → races_of bytes ≡ Err (record { at = 0; code = 74 })
unfolding races_of trace_of
long_races bytes h = rw (less (2 ^ 28) (length bytes) h) refl

pub long_trace : (file : Option (List ℕ)) (bytes : List ℕ) → file ≡ Some bytes → 2 ^ 28 < length bytes → races_in file ≡ Err (Trace 0 74)
long_trace file bytes e h = ap races_in e ∙ ap shown (long_races bytes h)

a_long_trace : ((bytes : List ℕ) × (2 ^ 28 < length bytes)) → (bytes : List ℕ) × (races_in (Some bytes) ≡ Err (Trace 0 74))
a_long_trace (bytes, long) = (bytes, long_trace (Some bytes) bytes refl long)

pub some_long_trace : (bytes : List ℕ) × (races_in (Some bytes) ≡ Err (Trace 0 74))
some_long_trace = a_long_trace (longer (2 ^ 28))
