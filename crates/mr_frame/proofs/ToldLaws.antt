-- Where a part stops, the whole stops.
use Rattle.mr_frame.proofs.Common.{◌≡◌, ◌<◌, ℕ, List, length, drop, get_or, Err, Option, Stop, stop_with, Reached, Fault, Outcome, Refused, Leaves, Tells, Memory, Value, Val, each_valued, valued, Surround, Seen}
use Rattle.mr_eval.proofs.RowRuns.{behind_row, row_stop}
use Rattle.mr_mem.specs.declared.fault.Fault.TheVariants as fault
use Rattle.mr_eval.specs.declared.halt.Halt.TheVariants as halt

-- of a part that is told as it is
pub told_stop : {A B S T : Type 0} (f : Fault) (o : Outcome A S) (whole : Outcome B T) (v : S) (t : T) (refused : Option Reached) → Tells {X = A} (Err f) o v refused
    → ((r : Stop) → o ≡ Refused r → whole ≡ Refused r) → Tells {X = B} (Err f) whole t refused
told_stop (fault.Undefined r) o whole v t refused h k = k (stop_with refused r) h
told_stop fault.Memory o whole v t refused h k = tt

-- of a change of memory
pub left_stop : {B S T : Type 0} (f : Fault) (o : Outcome Memory S) (whole : Outcome B T) (m : Memory) (v : S) (t : T) (refused : Option Reached) → Leaves (Err f) o m v refused
    → ((r : Stop) → o ≡ Refused r → whole ≡ Refused r) → Tells {X = B} (Err f) whole t refused
left_stop (fault.Undefined r) o whole m v t refused h k = k (stop_with refused r) h
left_stop fault.Memory o whole m v t refused h k = tt

-- of values in a row, of which one stops
pub row_told : (m : Memory) (s : Surround) (vs : List Value) (i : ℕ) (row : List Val) (old last : Seen) → each_valued m s vs old ≡ behind_row row (each_valued m s (drop i vs) last)
    → (item : Value) (f : Fault) (t : Seen) (refused : Option Reached) → i < length vs → item ≡ get_or vs i item
    → Tells {X = Val} (Err f) (valued m s item last) t refused → Tells {X = List Val} (Err f) (each_valued m s vs old) t refused
row_told m s vs i row old last so_far item (fault.Undefined r) t refused lt is h = row_stop m s vs i row old last so_far item (halt.Undefined r) t refused lt is h
row_told m s vs i row old last so_far item fault.Memory t refused lt is h = tt
