-- The turn of a thread whose next step is no intrinsic.
use Rattle.mr_start.proofs.Common.{◌≡◌, ◌≢◌, ℕ, ◌<◌, ◌+◌, refl, subst, sym, ap, ◌∙◌, arith, List, [], length, Option, Some, None, Bool, true, false, map, ◌==◌, length-map, slice_get_within, length-set, slice_get, slice_set, if◌then◌else◌, ◌++◌, Program, Status, Enabled, Ended, OnJoin, OnLock, Done, Undefined, Went, Broken, on, run, start_tally, IsSoundTables, over, creation_fault, needs_fault, picks_fault, Goes, Plan, Notes, start_notes, Shared, StepScript, answer, memory_part, tables_of, with_tables, AreHeld, Slot, no_faults, picks_length, MemoryFacts, Leaves, Left, leaves_then, memory_after, reading_after, After, after_then, FitsStack, IsLook, Look, Stack, next_do, frame_slots, set_here, Own, Turn, reads, with_stack, set_there}
use Rattle.std.proofs.lemmas.Option.{slice_get-map}
use Rattle.std.specs.Option.{option_map}
use Rattle.mr_frame.specs.TypingWalk.{WellFormed}
use Rattle.mr_base.specs.Script.{IllFormed, Ask}
use Rattle.mr_frame.specs.EvalMemoryQueries.{MemoryScript}
use Rattle.mr_frame.specs.EvalReads.{ReadScript}
use Rattle.mr_frame.specs.EvalSound.{IsSafe}
use Rattle.mr_intr.specs.SyncTables.{ended, wake}
use Rattle.mr_intr.proofs.SyncSoundTables.{stay_sound}
use Rattle.mr_frame.specs.PlanQueries.{Finish, ending}
use Rattle.mr_frame.specs.MemMemory.{ranges_of}
use Rattle.mr_frame.specs.Fits.{FitsOnward, IsSafePlan}
use Rattle.mr_frame.specs.Frames.{Aborts, EndsThread, Exits, GoesOn, Onward}
use Rattle.mr_frame.specs.Steps.{frame_plan}
use Rattle.mr_frame.specs.Storage.{onward_slots}
use Rattle.mr_frame.proofs.FrameSafe.{frame_safe}
use Rattle.mr_frame.proofs.StorageSteps.{KeepsSlots, Leads, frame_keeps}
use Rattle.mr_start.specs.Steps.{frame_step, in_step, onward}
use Rattle.mr_start.proofs.Turns.{AfterTurn, TurnLeaves, fits_over, same_tables}

-- whatever picks an entry brings that breaks no rule, the turn of this plan leaves what the next state keeps
abbrev pub PlanTurns : Program → Shared → ℕ → ℕ → List Slot → Plan (StepScript Turn) → Shared × Notes → Type 0
PlanTurns p s t c others plan w =
    (picks : List ℕ) → needs_fault s t c (record { creates = plan.creates; asks = plan.asks }) picks ≡ None → After (AfterTurn p s t c others) (run answer (plan.go picks) w)

-- both hold of what a script comes to
both_lead : {A : Type 0} (P Q : A → Type 0) (script : ReadScript A) → IsSafe P script → Leads Q script → IsSafe (λ x. P x × Q x) script
both_lead P Q (Done a) h k = (h, k)
both_lead P Q (Undefined r) h k = tt
both_lead P Q IllFormed h k = h
both_lead P Q (Ask q f) h k = λ x good. both_lead P Q (f x) (h x good) (k x)

-- ---- the end of a thread

-- who waited for it hadn't ended, and hasn't
over_wake : (t : ℕ) (o : Option Status) → over (option_map (wake t) o) ≡ over o
over_wake t None = refl
over_wake t (Some Enabled) = refl
over_wake t (Some Ended) = refl
over_wake t (Some (OnLock l)) = refl
over_wake t (Some (OnJoin u)) = by_test (u == t)
  where
    by_test : (b : Bool) → over (Some (if b then Enabled else OnJoin u)) ≡ Some false
    by_test true = refl
    by_test false = refl

module _ (look : Look) (is : IsLook look) (well : WellFormed look.program) (s : Shared) (t c : ℕ) (own : Own) (numbered : own.thread ≡ t) (sound : IsSoundTables (tables_of s)) (enabled : slice_get s.statuses t ≡ Some Enabled) (others : List Slot) where
  abbrev p : Program
  p = look.program

  abbrev begin : Shared × Notes
  begin = (s, start_notes t c)

  -- the thread's end, behind a part that asked memory alone
  module _ (stack : Stack) (none : stack.frames ≡ []) (w : Shared × Notes) (leaves : Leaves s.memory t c begin w) (held : AreHeld w.0.memory (frame_slots p stack.frames others)) where
    can_end : w.1.stopped ≡ false
    can_end = ap (λ (n : Notes). n.stopped) leaves.notes

    end_is : answer Finish w ≡ ending (ended t (tables_of s)) w.0 w.1
    end_is =
        ap (λ b. if b then Broken else ending (ended w.1.tally.thread (tables_of w.0)) w.0 w.1) can_end
        ∙ ap (λ k. ending (ended k (tables_of w.0)) w.0 w.1) leaves.facts.thread
        ∙ ap (λ (x : Shared). ending (ended t (tables_of x)) w.0 w.1) leaves.shared

    t_within : t < length s.statuses
    t_within = slice_get_within s.statuses t Enabled enabled

    own_ended : slice_get (map (wake t) (slice_set s.statuses t Ended)) t ≡ Some Ended
    own_ended = slice_get-map (wake t) (slice_set s.statuses t Ended) t ∙ ap (option_map (wake t)) (set_here s.statuses t Ended t_within)

    other_over : (u : ℕ) → u ≢ t → over (slice_get (map (wake t) (slice_set s.statuses t Ended)) u) ≡ over (slice_get s.statuses u)
    other_over u d =
        ap over (slice_get-map (wake t) (slice_set s.statuses t Ended) u)
        ∙ ap (λ o. over (option_map (wake t) o)) (set_there s.statuses t u Ended d)
        ∙ over_wake t (slice_get s.statuses u)

    leaves_ended : TurnLeaves p s t c others (with_stack own stack) None (with_tables w.0 (ended t (tables_of s)).0, record w.1 { ended = true; stopped = true; woken = w.1.woken ++ (ended t (tables_of s)).1 })
    leaves_ended = record {
      thread = numbered;
      tables = stay_sound.end t (tables_of s) enabled sound;
      many = length-map (slice_set s.statuses t Ended) (wake t) ∙ length-set s.statuses t Ended ∙ plus_none (length s.statuses);
      own_fits = λ status e. fits_over p Ended status stack (ap over (sym own_ended ∙ e)) none;
      other = λ u d lt. other_over u d;
      new_fits = tt;
      facts = leaves.facts;
      held = held;
    }
      where
        plus_none : (n : ℕ) → n ≡ n + 0
        plus_none n = omega arith

    ended_turn : After (AfterTurn p s t c others) (run answer (onward own (EndsThread stack)) w)
    ended_turn = subst (λ o. After (AfterTurn p s t c others) (on o (λ x v. Went (Goes (with_stack own stack) None) v))) (sym end_is) leaves_ended

  -- how the thread goes on, behind what its frame did
  onward_turn : (o : Onward) (w : Shared × Notes) → FitsOnward p o → Leaves s.memory t c begin w → AreHeld w.0.memory (onward_slots p o others) → After (AfterTurn p s t c others) (run answer (onward own o) w)
  onward_turn (GoesOn stack) w fits leaves held = same_tables p t c begin w others (with_stack own stack) numbered sound enabled fits leaves held
  onward_turn (EndsThread stack) w fits leaves held = ended_turn stack fits w leaves held
  onward_turn Exits w fits leaves held = tt
  onward_turn Aborts w fits leaves held = tt

  -- THE TURN of a thread whose frames fit, and whose rooms are held beside others
  pub frame_turn : FitsStack p own.stack → next_do look own.stack ≡ None → MemoryFacts s.memory t c s.memory (start_tally t c) → AreHeld s.memory (frame_slots p own.stack.frames others)
      → After (PlanTurns p s t c others) (run answer (frame_step look own) begin)
  frame_turn fits plain facts held =
      let rooms = frame_slots p own.stack.frames others in
      let Planned : Plan (MemoryScript Onward) → Type 0 = λ plan. IsSafePlan p plan × KeepsSlots p others rooms plan in
      after_then answer (Left s.memory t c Planned (λ plan. rooms) begin) (PlanTurns p s t c others) (reads (frame_plan look own.thread own.stack)) (λ plan. Done (in_step own plan)) begin
      (reading_after s.memory t c Planned rooms (frame_plan look own.thread own.stack)
      (both_lead (IsSafePlan p) (KeepsSlots p others rooms) (frame_plan look own.thread own.stack) (frame_safe look is well own.thread own.stack fits plain) (frame_keeps look own.thread own.stack others))
      begin facts held)
      (λ plan v left picks legal.
      let parts = no_faults (creation_fault s plan.creates) (picks_fault s.statuses (ranges_of s.memory) t c plan.asks picks) legal in
      let many = picks_length s.statuses (ranges_of s.memory) t c plan.asks picks parts.1 in
      after_then answer (Left s.memory t c (FitsOnward p) (λ o. onward_slots p o others) v) (AfterTurn p s t c others) (memory_part (plan.go picks)) (onward own) v
      (memory_after s.memory t c (FitsOnward p) (λ o. onward_slots p o others) rooms (plan.go picks) (left.value.0 picks many) (left.value.1 picks) v left.leaves.facts left.held)
      (λ o u done. onward_turn o u done.value (leaves_then s.memory t c begin v u left.leaves done.leaves) done.held))
