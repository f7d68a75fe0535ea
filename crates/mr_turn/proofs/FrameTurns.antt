-- The turn of a thread whose next step is no intrinsic: what it needs, and what it comes to, by what the frame's step comes to.
use Rattle.mr_turn.proofs.Common.{◌≡◌, ℕ, refl, sym, ap, ap₂, ◌∙◌, List, [], Option, None, true, false, option_map, Stop, Memory, Done, ◌>>=◌, Outcome, Went, Refused, Broken, on, run, run_bind, Tables, MemoryScript, memory_answer, reading_part, Seen, reading, Tally, seen_of, with_seen, world_of, Scene, CreatesNothing, Plan, needs_of, Notes, Shared, answer, with_tables, memory_then, moved_to, on_then, reading_run, tallied, Look, Onward, onward_of, stack_of, DueDo, next_do, frame_plan, Own, Turn, Deed, Turned, begun, is_end, own_of, planned, printed_lines, shared_in, turn_by, turned}
use Rattle.mr_sync.specs.Tables.{ended}
use Rattle.mr_frame.specs.PlanQueries.{memory_part}
use Rattle.mr_frame.proofs.PlanReadingRuns.{reading_then}
use Rattle.mr_frame.specs.declared.flow.Flow.{Flow}
use Rattle.mr_start.specs.Steps.{in_step, onward, own_step, step_due}
use Rattle.mr_turn.specs.Turning.{IsFlow}
use Rattle.mr_frame.specs.declared.flow.Flow.TheVariants as flow
use Rattle.mr_frame.specs.declared.stack.Stack.{Stack as KeptStack}
use Rattle.mr_frame.specs.Effects.{acted, asked, asks_of, planned as frame_planned}
use Rattle.mr_turn.proofs.PlanAsks.{IsPlain, WentSo, frame_plain, led}

module _ (look : Look) (own : Own) (none : next_do look own.stack ≡ None) (w : Shared × Notes) where
  abbrev found : Outcome (Plan (MemoryScript Onward)) Seen
  found = run (reading w.0.memory) (frame_plan look own.thread own.stack) (seen_of w.1.tally)

  abbrev seeing : Seen → Memory × Tally
  seeing s = (w.0.memory, with_seen w.1.tally s)

  -- its plan, in the step
  step_is : run answer (own_step look own) w ≡ on found (λ plan s. Went (in_step own plan) (moved_to w (seeing s)))
  unfolding own_step
  step_is =
      ap (λ (o : Option DueDo). run answer (step_due look own o) w) none
      ∙ memory_then (reading_part (frame_plan look own.thread own.stack)) (λ plan. Done (in_step own plan)) w
      ∙ ap (λ o. on o (λ plan v. Went (in_step own plan) (moved_to w v))) (reading_run (frame_plan look own.thread own.stack) (w.0.memory, w.1.tally))
      ∙ on_then found (tallied (w.0.memory, w.1.tally)) (λ plan v. Went (in_step own plan) (moved_to w v))

  needs_are : (o : Outcome (Plan (MemoryScript Onward)) Seen) → WentSo IsPlain o
      → needs_of (on o (λ plan s. Went (in_step own plan) (moved_to w (seeing s)))) ≡ record { creates = CreatesNothing; asks = asks_of o }
  needs_are (Went plan s) h = ap (λ c. record { creates = c; asks = plan.asks }) h.creates
  needs_are (Refused r) h = refl
  needs_are Broken h = refl

  -- what it needs: addresses
  pub frame_needs : needs_of (planned look own w) ≡ record { creates = CreatesNothing; asks = asked w.0.memory look own.thread own.stack (seen_of w.1.tally) }
  unfolding planned asked frame_planned
  frame_needs = ap needs_of step_is ∙ needs_are found (led IsPlain (frame_plan look own.thread own.stack) (frame_plain look own.thread own.stack) w.0.memory (seen_of w.1.tally))

  -- what it comes to
  pub frame_turned : (picks : List ℕ) → turned look own picks w ≡ on (acted look own.thread own.stack picks (w.0.memory, w.1.tally)) (λ x v. run answer (onward own x) (moved_to w v))
  unfolding turned acted
  frame_turned picks =
      run_bind answer (own_step look own) (λ plan. plan.go picks) w
      ∙ ap (λ o. on o (λ plan v. run answer (plan.go picks) v)) step_is
      ∙ on_then found (λ plan s. Went (in_step own plan) (moved_to w (seeing s))) (λ plan v. run answer (plan.go picks) v)
      ∙ behind found
      ∙ sym (ap (λ o. on o (λ x v. run answer (onward own x) (moved_to w v))) (reading_then (frame_plan look own.thread own.stack) (λ plan. plan.go picks) (w.0.memory, w.1.tally))
      ∙ on_then found (λ plan s. run memory_answer (plan.go picks) (seeing s)) (λ x v. run answer (onward own x) (moved_to w v)))
    where
      behind : (o : Outcome (Plan (MemoryScript Onward)) Seen)
          → on o (λ plan s. run answer (memory_part (plan.go picks) >>= onward own) (moved_to w (seeing s)))
          ≡ on o (λ plan s. on (run memory_answer (plan.go picks) (seeing s)) (λ x v. run answer (onward own x) (moved_to w v)))
      behind (Went plan s) = memory_then (plan.go picks) (onward own) (moved_to w (seeing s))
      behind (Refused r) = refl
      behind Broken = refl

-- THE TURN that a flow comes to
module _ (look : Look) (thread threads : ℕ) (stack stack' : KeptStack) (s s' : Scene) (x x' : Tables) (picks : List ℕ) (d : Deed) where
  abbrev own : Own
  own = own_of thread stack

  abbrev outcome : Outcome Turn (Shared × Notes)
  outcome = turned look own picks (begun s x)

  abbrev moved : Shared × Notes
  moved = moved_to (begun s x) (world_of s')

  -- the notes behind the end of a thread, and where it leads
  abbrev notes_behind : ℕ → Notes
  notes_behind t = record moved.1 { ended = true; stopped = true; woken = (ended t x).1 }

  abbrev end_notes : Notes
  end_notes = notes_behind thread

  abbrev led_to : ℕ → Outcome Turn (Shared × Notes)
  led_to t = Went (turn_by flow.Ended own stack' None) (with_tables moved.0 (ended t x).0, notes_behind t)

  told : (f : Flow) (n : Notes) → outcome ≡ Went (turn_by f own stack' None) (shared_in s' x', n) → d.flow ≡ f → d.started ≡ None
      → outcome ≡ Went (turn_by d.flow own stack' (option_map (own_of threads) d.started)) (shared_in s' x', n)
  told f n h e k = h ∙ ap₂ (λ g st. Went (turn_by g own stack' (option_map (own_of threads) st)) (shared_in s' x', n)) (sym e) (sym k)

  -- a flow that wakes nobody
  quiet : (f : Flow) → is_end f ≡ false → outcome ≡ Went (turn_by f own stack' None) moved → IsFlow f thread x x' d → x' ≡ x → d.woken.items ≡ []
      → Turned own threads outcome d stack' s' x'
  quiet f other goes is same none = record {
    notes = moved.1;
    goes = told f moved.1 (goes ∙ ap (λ (y : Tables). Went (turn_by f own stack' None) (shared_in s' y, moved.1)) (sym same)) is.flow is.started;
    tally = refl;
    event = sym is.event;
    ended = sym (ap is_end is.flow ∙ other);
    woken = sym none;
    printed = sym (ap (λ t. printed_lines (option_map (λ text. text.items) t)) is.text);
  }

  ends : s'.thread ≡ thread → outcome ≡ run answer (onward own (onward_of flow.Ended (stack_of stack'))) moved → IsFlow flow.Ended thread x x' d → Turned own threads outcome d stack' s' x'
  ends same goes is = record {
    notes = end_notes;
    goes = told flow.Ended end_notes (goes ∙ ap led_to same ∙ ap (λ (y : Tables). Went (turn_by flow.Ended own stack' None) (shared_in s' y, end_notes)) (sym is.wakes.0)) is.flow is.started;
    tally = refl;
    event = sym is.event;
    ended = sym (ap is_end is.flow);
    woken = sym is.wakes.1;
    printed = sym (ap (λ t. printed_lines (option_map (λ text. text.items) t)) is.text);
  }

  pub flow_turned : (f : Flow) → next_do look (stack_of stack) ≡ None → acted look thread (stack_of stack) picks (world_of s) ≡ Went (onward_of f (stack_of stack')) (world_of s')
      → s'.thread ≡ thread → IsFlow f thread x x' d → Turned own threads outcome d stack' s' x'
  flow_turned f none acts same is =
      by_flow f (frame_turned look own none (begun s x) picks ∙ ap (λ o. on o (λ y v. run answer (onward own y) (moved_to (begun s x) v))) acts) is
    where
      by_flow : (f : Flow) → outcome ≡ run answer (onward own (onward_of f (stack_of stack'))) moved → IsFlow f thread x x' d → Turned own threads outcome d stack' s' x'
      by_flow flow.Went goes is = quiet flow.Went refl goes is is.wakes.0 is.wakes.1
      by_flow flow.Exit goes is = quiet flow.Exit refl goes is is.wakes.0 is.wakes.1
      by_flow flow.Abort goes is = quiet flow.Abort refl goes is is.wakes.0 is.wakes.1
      by_flow flow.Ended goes is = ends same goes is

-- a step that itself stops
pub flow_refused : (look : Look) (thread : ℕ) (stack : KeptStack) (s : Scene) (x : Tables) (picks : List ℕ) (r : Stop) → next_do look (stack_of stack) ≡ None
    → acted look thread (stack_of stack) picks (world_of s) ≡ Refused r → turned look (own_of thread stack) picks (begun s x) ≡ Refused r
flow_refused look thread stack s x picks r none acts =
    frame_turned look (own_of thread stack) none (begun s x) picks ∙ ap (λ o. on o (λ y v. run answer (onward (own_of thread stack) y) (moved_to (begun s x) v))) acts
