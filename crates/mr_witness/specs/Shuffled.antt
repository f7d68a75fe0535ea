-- An order of a run that is drawn from a number, turn by turn.
use Rattle.std.specs.Prelude.{ℕ, suc, zero, ◌+◌, ◌==◌, Bool, false, not, List, [], ◌∷◌, length, max, Option, None, Some}
use Rattle.std.specs.List.{filter, find, list_any}
use Rattle.mr_event.specs.Footprint.{Footprint}
use Rattle.mr_event.specs.Order.{places, thread_at}
use Rattle.mr_event.specs.Predicted.{happens_before}
use Rattle.mr_sched.specs.declared.chooser.Chooser.{Chooser}
use Rattle.mr_sched.specs.declared.schedule.Schedule.{Schedule}
use Rattle.mr_sched.specs.Chooser.{behind_draw, drawn_from, first_chooser}
use Rattle.mr_witness.specs.EveryOrder.{reordered}

-- the earliest step of the thread among those that are left, which stand in recorded order
abbrev pub earliest_of : List Footprint → List ℕ → ℕ → Option ℕ
earliest_of run left thread = find (λ k. thread_at run k == thread) left

-- whether every step that happens before step k is placed: none of those that are left does
abbrev pub is_free : List Footprint → List ℕ → ℕ → Bool
is_free run left k = not (list_any (λ a. happens_before run a k) left)

-- whether there is such a step, and it is free
abbrev pub free_step : List Footprint → List ℕ → Option ℕ → Bool
free_step run left None = false
free_step run left (Some k) = is_free run left k

-- whether the thread is ready: its earliest step that is left is free
abbrev pub is_ready : List Footprint → List ℕ → ℕ → Bool
is_ready run left thread = free_step run left (earliest_of run left thread)

-- a number above those of all threads
abbrev pub above_threads : List Footprint → ℕ
above_threads [] = 0
above_threads (f ∷ fs) = max (f.thread + 1) (above_threads fs)

-- the ready threads, by rising number
abbrev pub ready_threads : List Footprint → List ℕ → List ℕ
ready_threads run left = filter (is_ready run left) (places (above_threads run))

-- a step that is there
abbrev pub step_or_first : Option ℕ → ℕ
step_or_first None = 0
step_or_first (Some k) = k

-- the step that is placed next: the earliest one of the ready thread that is drawn
abbrev pub drawn_step : List Footprint → Chooser → List ℕ → ℕ
drawn_step run c left = step_or_first (earliest_of run left (drawn_from c (ready_threads run left)))

-- the steps that are left behind a step
abbrev pub without : ℕ → List ℕ → List ℕ
without k left = filter (λ a. not (a == k)) left

-- the steps that are placed in so many turns, one in each
abbrev pub placed_in : List Footprint → Chooser → List ℕ → ℕ → List ℕ
placed_in run c left zero = []
placed_in run c left (suc turns) =
    drawn_step run c left ∷ placed_in run (behind_draw c) (without (drawn_step run c left) left) turns

-- THE ORDER that is drawn from a number: all steps are left at first
unfoldable pub shuffled_order : List Footprint → ℕ → List ℕ
shuffled_order run number = placed_in run (first_chooser number) (places (length run)) (length run)

-- THE SHUFFLED SCHEDULE
abbrev pub shuffled : List Footprint → Schedule → ℕ → Schedule
shuffled run w number = reordered run w (shuffled_order run number)
