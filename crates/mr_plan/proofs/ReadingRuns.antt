-- A script of evaluation, as a part of one that asks memory, does what it does over the memory alone; and such a script, as a part of a step,
-- does what it does over memory and tally alone.
use Rattle.mr_plan.proofs.Common.{◌≡◌, refl, ap, ◌∙◌, Memory, Done, Undefined, IllFormed, Ask, ◌>>=◌, Outcome, Went, Refused, Broken, on, run, ReadScript, Seen, reading, Tally, seen_of, with_seen, MemoryScript, memory_answer, reading_part}
use Rattle.mr_base.proofs.ScriptRuns.{run_bind}
use Rattle.mr_plan.specs.Notes.{Notes}
use Rattle.mr_plan.specs.Queries.{Shared, StepScript, answer, in_shared, memory_part}

-- what a run over the memory leaves, in the memory and the tally
abbrev pub tallied : {A : Type 0} → Memory × Tally → A → Seen → Outcome A (Memory × Tally)
tallied w x s = Went x (w.0, with_seen w.1 s)

-- going on twice is going on once, also where the state is another one
pub on_then : {A B C S T U : Type 0} (o : Outcome A S) (f : A → S → Outcome B T) (g : B → T → Outcome C U) → on (on o f) g ≡ on o (λ a s. on (f a s) g)
on_then (Went a s) f g = refl
on_then (Refused r) f g = refl
on_then Broken f g = refl

-- ---- reading

-- the same behind what was seen before
later : {A B : Type 0} (w : Memory × Tally) (o : Outcome A Seen) (f : A → MemoryScript B) (g : A → Seen → Outcome B Seen)
    → ((x : A) (s : Seen) → run memory_answer (f x) (w.0, with_seen w.1 s) ≡ on (g x s) (tallied w))
    → on (on o (tallied w)) (λ x v. run memory_answer (f x) v) ≡ on (on o g) (tallied w)
later w (Went x s) f g h = h x s
later w (Refused r) f g h = refl
later w Broken f g h = refl

-- THE LAW of a reading part: its run is that over the memory, noted
pub reading_run : {A : Type 0} (script : ReadScript A) (w : Memory × Tally)
    → run memory_answer (reading_part script) w ≡ on (run (reading w.0) script (seen_of w.1)) (tallied w)
reading_run (Done a) w = refl
reading_run (Undefined r) w = refl
reading_run IllFormed w = refl
reading_run (Ask q k) w =
    later w (reading w.0 q (seen_of w.1)) (λ x. reading_part (k x)) (λ x s. run (reading w.0) (k x) s) (λ x s. reading_run (k x) (w.0, with_seen w.1 s))

-- with a script behind it
pub reading_then : {A B : Type 0} (script : ReadScript A) (f : A → MemoryScript B) (w : Memory × Tally)
    → run memory_answer (reading_part script >>= f) w ≡ on (run (reading w.0) script (seen_of w.1)) (λ x s. run memory_answer (f x) (w.0, with_seen w.1 s))
reading_then script f w =
    run_bind memory_answer (reading_part script) f w
    ∙ ap (λ o. on o (λ x v. run memory_answer (f x) v)) (reading_run script w)
    ∙ on_then (run (reading w.0) script (seen_of w.1)) (tallied w) (λ x v. run memory_answer (f x) v)

-- ---- memory

-- the shared state and the notes with another memory and tally
abbrev pub moved_to : Shared × Notes → Memory × Tally → Shared × Notes
moved_to w v = (record w.0 { memory = v.0 }, record w.1 { tally = v.1 })

later_shared : {A B : Type 0} (w : Shared × Notes) (o : Outcome A (Memory × Tally)) (f : A → StepScript B) (g : A → Memory × Tally → Outcome B (Memory × Tally))
    → ((x : A) (v : Memory × Tally) → run answer (f x) (moved_to w v) ≡ on (g x v) (in_shared w))
    → on (on o (in_shared w)) (λ x v. run answer (f x) v) ≡ on (on o g) (in_shared w)
later_shared w (Went x v) f g h = h x v
later_shared w (Refused r) f g h = refl
later_shared w Broken f g h = refl

-- THE LAW of a part that asks memory alone: its run is that over memory and tally
pub memory_run : {A : Type 0} (script : MemoryScript A) (w : Shared × Notes)
    → run answer (memory_part script) w ≡ on (run memory_answer script (w.0.memory, w.1.tally)) (in_shared w)
memory_run (Done a) w = refl
memory_run (Undefined r) w = refl
memory_run IllFormed w = refl
memory_run (Ask q k) w =
    later_shared w (memory_answer q (w.0.memory, w.1.tally)) (λ x. memory_part (k x)) (λ x v. run memory_answer (k x) v) (λ x v. memory_run (k x) (moved_to w v))

-- with a script behind it
pub memory_then : {A B : Type 0} (script : MemoryScript A) (f : A → StepScript B) (w : Shared × Notes)
    → run answer (memory_part script >>= f) w ≡ on (run memory_answer script (w.0.memory, w.1.tally)) (λ x v. run answer (f x) (moved_to w v))
memory_then script f w =
    run_bind answer (memory_part script) f w
    ∙ ap (λ o. on o (λ x v. run answer (f x) v)) (memory_run script w)
    ∙ on_then (run memory_answer script (w.0.memory, w.1.tally)) (in_shared w) (λ x v. run answer (f x) v)
