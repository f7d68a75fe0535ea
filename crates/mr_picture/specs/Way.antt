-- The way from a step of a run to a later one, by edges of happens-before, and the reason of each edge.
use Rattle.std.specs.Prelude.{◌≡◌, ℕ, zero, suc, ◌-◌, ◌==◌, ◌&&◌, ◌||◌, Bool, if◌then◌else◌, List, [], ◌∷◌}
use Rattle.std.specs.Prelude.{Option, None, Some}
use Rattle.mr_base.specs.Accesses.{some_conflict}
use Rattle.mr_event.specs.Footprint.{Footprint}
use Rattle.mr_event.specs.Footprints.{both_create, both_spawn, joins_of, lock_of, same_number}
use Rattle.mr_event.specs.Order.{Edge, step_at, thread_at}
use Rattle.mr_event.specs.Predicted.{greatest_below, happens_before, has_edge, syncs}
use Rattle.mr_picture.specs.declared.because.Because.{Because}
use Rattle.mr_picture.specs.declared.because.Because.TheVariants as because

-- A WAY from a step to another: each step of it has an edge from the one before, and the last is where it leads
abbrev pub IsWay : List Footprint → ℕ → ℕ → List ℕ → Type 0
IsWay run i j [] = i ≡ j
IsWay run i j (k ∷ way) = Edge run i k × IsWay run k j way

-- whether a step leads on from one to another: it has an edge from the one, and it is the other or happens before it
abbrev pub leads : List Footprint → ℕ → ℕ → ℕ → Bool
leads run i j k = has_edge run i k && ((k == j) || happens_before run k j)

-- the greatest step that leads on
abbrev pub next_step : List Footprint → ℕ → ℕ → Option ℕ
next_step run i j = greatest_below (leads run i j) (suc j)

-- the way that goes on over a step, where there is one
abbrev pub way_over : (ℕ → List ℕ) → Option ℕ → List ℕ
way_over rest None = []
way_over rest (Some k) = k ∷ rest k

-- the way by the greatest steps that lead on, of at most so many
abbrev pub way_within : ℕ → List Footprint → ℕ → ℕ → List ℕ
way_within zero run i j = []
way_within (suc n) run i j =
    if i == j then [] else way_over (λ k. way_within n run k j) (next_step run i j)

-- THE WAY THAT IS TOLD from a step to a later one
abbrev pub way : List Footprint → ℕ → ℕ → List ℕ
way run i j = way_within (j - i) run i j

-- ---- reasons

-- why there is an edge between steps of two threads that aren't synchronised
abbrev pub bound_by : Footprint → Footprint → Because
bound_by f g =
    if same_number (lock_of f.event) (lock_of g.event) then because.Lock
    else if both_create f.event g.event then because.Locks
    else if both_spawn f.event g.event then because.Starts
    else if joins_of f g.event || joins_of g f.event then because.Join
    else if some_conflict f.accesses g.accesses then because.Access
    else because.Allocation

-- THE REASON OF AN EDGE: one thread, a thread that was woken or started, or what one of the steps did with what the
-- other did
abbrev pub because_of : List Footprint → ℕ → ℕ → Because
because_of run i j =
    if thread_at run i == thread_at run j then because.Thread
    else if syncs run i j then because.Woken
    else bound_by (step_at run i) (step_at run j)
