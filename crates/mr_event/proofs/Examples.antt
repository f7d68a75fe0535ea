-- Runs, and what is said of them, computed.
use Rattle.mr_event.proofs.Common.{◌≡◌, ℕ, List, [], ◌∷◌, true, false, refl, Access, some_conflict, some_race, Footprint, Pair, depends, wakes, no_step, places, step_at, has_edge, happens_before, race_pair, predicted}
use Rattle.std.proofs.Common.{map}
use Rattle.mr_base.specs.declared.thread.Event.{Event}
use Rattle.mr_base.specs.declared.thread.Event.TheVariants.{Quiet, CreateLock, Acquire, Release, Spawn, Join}
use Rattle.mr_event.specs.Kept.{kept}

abbrev pub load : ℕ → Access
load addr = record { store = false; atomic = false; addr = addr; len = 4 }

abbrev pub store : ℕ → Access
store addr = record { store = true; atomic = false; addr = addr; len = 4 }

abbrev pub atomic : Access → Access
atomic a = record { store = a.store; atomic = true; addr = a.addr; len = a.len }

-- a step of a thread that does no more than these accesses and this event
abbrev pub step : ℕ → List Access → Event → Footprint
step thread accesses event =
    record {
      thread = thread;
      accesses = accesses;
      allocated = [];
      freed = [];
      touched = [];
      event = event;
      ended = false;
      woken = [];
    }

-- a step of thread 0 that spawns a thread
abbrev pub spawning : ℕ → List Access → Footprint
spawning spawned accesses =
    record {
      thread = 0;
      accesses = accesses;
      allocated = [];
      freed = [];
      touched = [];
      event = Spawn spawned;
      ended = false;
      woken = spawned ∷ [];
    }

-- the last step of a thread
abbrev pub ending : ℕ → Footprint
ending thread =
    record {
      thread = thread;
      accesses = [];
      allocated = [];
      freed = [];
      touched = [];
      event = Quiet;
      ended = true;
      woken = [];
    }

abbrev pub pair : ℕ → ℕ → Pair
pair i j = record { first = i; second = j }

-- a thread of its own takes each of two steps, and ends; then thread 0 takes a last step
abbrev pub beside : Footprint → Footprint → Footprint → List Footprint
beside one two last =
    step 0 [] Quiet ∷ spawning 1 [] ∷ spawning 2 [] ∷ one ∷ ending 1 ∷ two ∷ ending 2 ∷ last ∷ []

abbrev two_stores : List Footprint
two_stores = beside (step 1 (store 4096 ∷ []) Quiet) (step 2 (store 4096 ∷ []) Quiet) (step 0 [] Quiet)

two_stores_race : predicted two_stores ≡ pair 3 5 ∷ []
unfolding predicted race_pair happens_before depends wakes no_step some_race some_conflict
two_stores_race = refl

-- the first store happens before the end of its own thread alone
behind_a_store : map (happens_before two_stores 3) (places 8) ≡ false ∷ false ∷ false ∷ false ∷ true ∷ false ∷ false ∷ false ∷ []
unfolding happens_before depends wakes no_step some_race some_conflict
behind_a_store = refl

two_stores_kept : kept two_stores 3 5 ≡ 0 ∷ 1 ∷ 2 ∷ 3 ∷ 5 ∷ []
unfolding happens_before depends wakes no_step some_race some_conflict
two_stores_kept = refl

-- a third store stands with the greatest of its two partners
third_store : predicted (beside (step 1 (store 4096 ∷ []) Quiet) (step 2 (store 4096 ∷ []) Quiet) (step 0 (store 4096 ∷ []) Quiet)) ≡ pair 3 5 ∷ pair 5 7 ∷ []
unfolding predicted race_pair happens_before depends wakes no_step some_race some_conflict
third_store = refl

-- two atomic stores depend, and are ordered
abbrev two_atomic_stores : List Footprint
two_atomic_stores = beside (step 1 (atomic (store 4096) ∷ []) Quiet) (step 2 (atomic (store 4096) ∷ []) Quiet) (step 0 [] Quiet)

atomic_stores_ordered : happens_before two_atomic_stores 3 5 ≡ true
unfolding happens_before depends wakes no_step some_race some_conflict
atomic_stores_ordered = refl

atomic_stores_calm : predicted two_atomic_stores ≡ []
unfolding predicted race_pair happens_before depends wakes no_step some_race some_conflict
atomic_stores_calm = refl

-- steps that conflict atomically at one place and race at another depend, but have no edge
abbrev atomic_and_race : List Footprint
atomic_and_race = beside (step 1 (load 4100 ∷ atomic (store 4096) ∷ []) Quiet) (step 2 (atomic (load 4096) ∷ store 4100 ∷ []) Quiet) (step 0 [] Quiet)

they_depend : depends (step_at atomic_and_race 3) (step_at atomic_and_race 5) ≡ true
unfolding depends no_step some_conflict
they_depend = refl

no_edge : has_edge atomic_and_race 3 5 ≡ false
unfolding depends wakes no_step some_race some_conflict
no_edge = refl

atomic_and_race_race : predicted atomic_and_race ≡ pair 3 5 ∷ []
unfolding predicted race_pair happens_before depends wakes no_step some_race some_conflict
atomic_and_race_race = refl

-- two loads of one place don't depend, and a load depends on an atomic store
two_loads : depends (step 1 (load 4096 ∷ []) Quiet) (step 2 (load 4096 ∷ []) Quiet) ≡ false
unfolding depends some_conflict
two_loads = refl

store_and_load : depends (step 1 (atomic (store 4096) ∷ []) Quiet) (step 2 (load 4096 ∷ []) Quiet) ≡ true
unfolding depends some_conflict
store_and_load = refl

-- an atomic store and another one race
atomic_and_plain : predicted (beside (step 1 (atomic (store 4096) ∷ []) Quiet) (step 2 (store 4096 ∷ []) Quiet) (step 0 [] Quiet)) ≡ pair 3 5 ∷ []
unfolding predicted race_pair happens_before depends wakes no_step some_race some_conflict
atomic_and_plain = refl

-- a lock orders what its holders store between their acquires and releases
abbrev locked : List Footprint
locked =
    step 0 [] (CreateLock 0) ∷ spawning 1 [] ∷ spawning 2 []
    ∷ step 1 [] (Acquire 0) ∷ step 1 (store 4096 ∷ []) Quiet ∷ step 1 [] (Release 0)
    ∷ step 2 [] (Acquire 0) ∷ step 2 (store 4096 ∷ []) Quiet ∷ step 2 [] (Release 0) ∷ []

locked_calm : predicted locked ≡ []
unfolding predicted race_pair happens_before depends wakes no_step some_race some_conflict
locked_calm = refl

-- so does one whose release hands it to a thread that waits for it, and wakes that thread
abbrev handed : Footprint
handed = record (step 1 [] (Release 0)) { woken = 2 ∷ [] }

abbrev awaited : List Footprint
awaited =
    step 0 [] (CreateLock 0) ∷ spawning 1 [] ∷ spawning 2 []
    ∷ step 1 [] (Acquire 0) ∷ step 2 [] (Acquire 0) ∷ step 1 (store 4096 ∷ []) Quiet ∷ handed
    ∷ step 2 (store 4096 ∷ []) Quiet ∷ step 2 [] (Release 0) ∷ []

awaited_calm : predicted awaited ≡ []
unfolding predicted race_pair happens_before depends wakes no_step some_race some_conflict
awaited_calm = refl

-- what the creator of a thread stored is no race with its first step
created : predicted (spawning 1 (store 4096 ∷ []) ∷ step 1 (load 4096 ∷ []) Quiet ∷ ending 1 ∷ []) ≡ []
unfolding predicted race_pair happens_before depends wakes no_step some_race some_conflict
created = refl

-- but with that of another thread
created_another : predicted (spawning 1 (store 4096 ∷ []) ∷ spawning 2 (store 4096 ∷ []) ∷ step 1 (load 4096 ∷ []) Quiet ∷ []) ≡ pair 1 2 ∷ []
unfolding predicted race_pair happens_before depends wakes no_step some_race some_conflict
created_another = refl

-- of two readers only that whose end was waited for is ordered before a store; what doesn't follow the other is kept
abbrev one_joined : List Footprint
one_joined =
    step 0 [] Quiet ∷ spawning 1 [] ∷ spawning 2 [] ∷ step 1 (load 4096 ∷ []) Quiet ∷ step 2 (load 4096 ∷ []) Quiet
    ∷ ending 2 ∷ step 0 [] (Join 2) ∷ step 0 (store 4096 ∷ []) Quiet ∷ step 0 [] Quiet ∷ []

one_joined_race : predicted one_joined ≡ pair 3 7 ∷ []
unfolding predicted race_pair happens_before depends wakes no_step some_race some_conflict
one_joined_race = refl

one_joined_kept : kept one_joined 3 7 ≡ 0 ∷ 1 ∷ 2 ∷ 4 ∷ 5 ∷ 6 ∷ 3 ∷ 7 ∷ []
unfolding happens_before depends wakes no_step some_race some_conflict
one_joined_kept = refl

-- the witness of that pair is a run with the same race, between its last two steps
one_joined_again : predicted (map (step_at one_joined) (kept one_joined 3 7)) ≡ pair 6 7 ∷ []
unfolding predicted race_pair happens_before depends wakes no_step some_race some_conflict
one_joined_again = refl

-- two threads store a half each of what a third step loads: the load has two partners, and stands with the later one
abbrev pub halves : List Footprint
halves =
    step 0 [] Quiet ∷ step 0 [] Quiet ∷ spawning 1 [] ∷ spawning 2 [] ∷ step 1 (store 4094 ∷ []) Quiet ∷ ending 1
    ∷ step 2 (store 4098 ∷ []) Quiet ∷ ending 2 ∷ step 0 (load 4096 ∷ []) Quiet ∷ step 0 [] Quiet ∷ []

halves_race : predicted halves ≡ pair 6 8 ∷ []
unfolding predicted race_pair happens_before depends wakes no_step some_race some_conflict
halves_race = refl

-- the end of the second thread follows its store, and is left out
halves_kept : kept halves 6 8 ≡ 0 ∷ 1 ∷ 2 ∷ 3 ∷ 4 ∷ 5 ∷ 6 ∷ 8 ∷ []
unfolding happens_before depends wakes no_step some_race some_conflict
halves_kept = refl
