-- The language of the machine has what the exchange of neighbouring steps, and the limits of their footprints, ask of a language.
use Rattle.mr_exchange.proofs.Common.{◌≡◌, ℕ, zero, suc, ◌≤◌, refl, sym, ◌∙◌, subst, List, arith, Any, IsStrictlyIncreasing, Went, run, Plan, Look, addresses, ActsOn, HasOneEvent, IsCreated, IsStarted, IsTelling, Own, own_step, thread_step}
use Rattle.mr_exchange.specs.PlanMachine.{Flow, Goes}
use Rattle.mr_exchange.specs.PlanNotes.{Notes, start_notes}
use Rattle.mr_exchange.specs.PlanQueries.{Shared, StepScript, answer}
use Rattle.mr_exchange.proofs.Rising.{rising_none}
use Rattle.mr_exchange.proofs.Marks.{HasMarks, Marks, Wakes, marked, marking, unmarked}
use Rattle.mr_exchange.proofs.Tells.{PlanTells, TurnTells}
use Rattle.mr_exchange.proofs.Threads.{step_tells}
use Rattle.mr_exchange.proofs.Tracked.{tracked}

-- who is woken once at most rises
rises : (k : ℕ) (woken : List ℕ) → k ≤ 1 → Wakes k woken → IsStrictlyIncreasing woken
rises zero woken once h = subst IsStrictlyIncreasing (sym h) rising_none
rises (suc zero) woken once h = h
rises (suc (suc k)) woken once h = absurd (omega arith)

module _ (look : Look) where
  -- the plan that a run comes to, with its marks
  planned : (own : Own) (s s1 : Shared) (t count : ℕ) (n : Notes) (plan : Plan (StepScript (Flow Own))) → run answer (own_step look own) (s, start_notes t count) ≡ Went plan (s1, n)
      → (v : Marks) × HasMarks (s1, n) v × PlanTells TurnTells plan v
  planned own s s1 t count n plan went =
      tracked marked answer HasMarks marking (PlanTells TurnTells) (own_step look own) (s, start_notes t count) (s1, n) plan unmarked
      (record { events = refl; ranges = refl; woken = refl }) (step_tells look own) went

  -- THE LANGUAGE OF THE MACHINE TELLS what each of its steps does
  pub thread_step_tells : IsTelling (thread_step look)
  thread_step_tells = record {
    looked = λ own s s1 t count n plan went l waits.
        let p = planned own s s1 t count n plan went in
        subst (Any (ActsOn l)) (sym p.1.events) (p.2.looks l waits);
    told = λ own s s1 s2 t count n1 n plan picks after started went goes.
        let p = planned own s s1 t count n1 plan went in
        let r = tracked marked answer HasMarks marking (TurnTells plan.creates (addresses plan.asks picks)) (plan.go picks) (s1, n1) (s2, n) (Goes after started) p.0 p.1 (p.2.acts picks) goes in
        record {
          allocates = r.1.ranges ∙ r.2.0.allocates;
          one_event = subst HasOneEvent (sym r.1.events) r.2.0.one_event;
          creates = subst (IsCreated plan.creates) (sym r.1.events) r.2.0.creates;
          starts = subst (IsStarted started) (sym r.1.events) r.2.1;
          rises = rises r.0.0.1 n.woken r.2.0.once r.1.woken;
        };
  }
