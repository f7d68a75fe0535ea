-- The same order and the same races as values that compute, and the list of the races of a run.
use Rattle.std.specs.Prelude.{ℕ, suc, zero, ◌+◌, ◌-◌, List, [], ◌++◌, length, Bool, false, not, ◌&&◌, ◌||◌}
use Rattle.std.specs.Prelude.{◌==◌, nat_lt}
use Rattle.std.specs.List.{list_any, range_with_len}
use Rattle.mr_base.specs.Accesses.{some_race}
use Rattle.mr_base.specs.declared.access.Access.{Access}
use Rattle.mr_base.specs.declared.thread.Event.{Event}
use Rattle.mr_base.specs.declared.thread.Event.TheVariants.{Acquire, Join}
use Rattle.mr_event.specs.Footprint.{Footprint}
use Rattle.mr_event.specs.declared.footprint.Pair.{Pair}
use Rattle.mr_event.specs.Footprints.{wakes}
use Rattle.mr_event.specs.Order.{step_at, thread_at, places}
use Rattle.mr_event.specs.Predicted.{greatest_below, pair_with}
use Rattle.mr_rust_order.specs.Order.{is_atomic_load, is_atomic_store, is_plain_store, is_store, releases}

-- whether the step makes an access that passes the test at the byte
abbrev pub makes : (Access → ℕ → Bool) → Footprint → ℕ → Bool
makes test f byte = list_any (λ a. test a byte) f.accesses

-- whether a step between the two stores to the byte
abbrev pub stored_between : List Footprint → ℕ → ℕ → ℕ → Bool
stored_between run i j byte = list_any (λ k. makes is_store (step_at run k) byte) (range_with_len (i + 1) (j - (i + 1)))

-- whether step j loads the byte atomically, and reads what step i stored
abbrev pub reads_byte : List Footprint → ℕ → ℕ → ℕ → Bool
reads_byte run i j byte =
    nat_lt i j
    && makes is_atomic_load (step_at run j) byte
    && makes is_atomic_store (step_at run i) byte
    && not (makes is_plain_store (step_at run i) byte)
    && not (stored_between run i j byte)

-- whether it does so with some byte of an access
abbrev pub reads_in : List Footprint → ℕ → ℕ → Access → Bool
reads_in run i j a = list_any (reads_byte run i j) (range_with_len a.addr a.len)

abbrev pub reads : List Footprint → ℕ → ℕ → Bool
reads run i j = list_any (reads_in run i j) (step_at run j).accesses

-- whether the one event releases a lock that the other acquires, or tries to
abbrev pub hands_over : Event → Event → Bool
hands_over d (Acquire lock) = releases d lock
hands_over d _ = false

-- whether the event joins the thread
abbrev pub joins : Event → ℕ → Bool
joins (Join joined) thread = joined == thread
joins _ thread = false

-- whether step i comes right before step j
abbrev pub has_edge : List Footprint → ℕ → ℕ → Bool
has_edge run i j =
    nat_lt i j
    && ((thread_at run i == thread_at run j)
    || wakes (step_at run i) (thread_at run j)
    || hands_over (step_at run i).event (step_at run j).event
    || (step_at run i).ended && joins (step_at run j).event (thread_at run i)
    || reads run i j)

-- whether a chain of at most n edges leads from i to j
abbrev pub chained : List Footprint → ℕ → ℕ → ℕ → Bool
chained run zero i j = false
chained run (suc n) i j = has_edge run i j || list_any (λ k. chained run n i k && has_edge run k j) (places j)

-- whether step i happens before step j
unfoldable pub happens_before : List Footprint → ℕ → ℕ → Bool
happens_before run i j = chained run j i j

-- whether the two steps have a race
unfoldable pub has_race : List Footprint → ℕ → ℕ → Bool
has_race run i j =
    nat_lt i j
    && not (thread_at run i == thread_at run j)
    && some_race (step_at run i).accesses (step_at run j).accesses
    && not (happens_before run i j)

-- the races of the steps below n
abbrev pub races_below : List Footprint → ℕ → List Pair
races_below run zero = []
races_below run (suc n) = races_below run n ++ pair_with (greatest_below (λ i. has_race run i n) n) n

-- THE RACES OF A RUN by Rust's order: each step that has one, with the greatest earlier step of such a pair, by rising
-- second step
unfoldable pub rust_races : List Footprint → List Pair
rust_races run = races_below run (length run)
