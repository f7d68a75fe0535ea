-- How many footprints a run has.
use Rattle.mr_exchange.proofs.Common.{◌≡◌, ℕ, suc, ◌+◌, refl, sym, ◌∙◌, arith, ◌⊎◌, inl, inr, List, [], ◌∷◌, ◌++◌, length, Bool, true, false, not, Option, Some, None, Program, Entry, WellFormed, Bare, IllFormedStep, Stops, AreLegal, Config, after_bare, entry_fault, feet, foot_from, foot_of_bare, machine_step, stepped_from, IsLook, Look, IsSoundConfig, Own, thread_step, look_of, start_config, start_look, start_sound}
use Rattle.std.proofs.Common.{length-append}
use Rattle.mr_sched.specs.declared.schedule.Schedule.{Schedule}
use Rattle.mr_exchange.specs.PlanMachine.{Completed, State, bare}
use Rattle.mr_exchange.specs.PlanRuns.{has_rule, is_ill_formed}
use Rattle.mr_start.proofs.RunSound.{entry_sound, legal_at}
use Rattle.mr_start.specs.Runs.{Legal, steps_of}
use Rattle.mr_exchange.specs.Counted.{LastStops, StopsAtLast, is_stop, stops_in}

-- so many footprints are one for each of these entries, or one fewer where the last entry itself stops
abbrev Counted : ℕ → ℕ → Type 0 → Type 0
Counted steps entries stops = ((steps ≡ entries) × (stops → ⊥)) ⊎ ((steps + 1 ≡ entries) × stops)

no_state : {s : State Own} → None ≡ Some s → ⊥
no_state e = cc

module _ (look : Look) (is : IsLook look) (well : WellFormed look.program) where
  -- a single entry
  one : (e : Entry) (o : Option (State Own)) → has_rule (thread_step look) e.thread e.picks o ≡ true → (o ≡ None → ⊥)
      → Counted (length (foot_from (thread_step look) e.thread e.picks o ++ [])) 1 (stops_in (thread_step look) e o ≡ true)
  one e None rule there = absurd (there refl)
  one e (Some s) rule there = by_bare (bare (thread_step look) s e.thread e.picks) rule
    where
      by_bare : (b : Bare Own) → not (is_ill_formed b) ≡ true → Counted (length (foot_of_bare (thread_step look) b ++ [])) 1 (is_stop b ≡ true)
      by_bare (Completed n s') r = inl (refl, λ k. absurd (cc))
      by_bare (Stops v about) r = inr (refl, refl)
      by_bare IllFormedStep r = absurd (cc)

  -- an entry before another one that is legal behind it: its step completes
  goes_on : (c : Config Own) (e f : Entry) → has_rule (thread_step look) e.thread e.picks c.state ≡ true → entry_fault (thread_step look) c e ≡ None → entry_fault (thread_step look) (machine_step (thread_step look) c e) f ≡ None
      → length (foot_from (thread_step look) e.thread e.picks c.state) ≡ 1
  unfolding machine_step
  goes_on c e f rule legal next = by_state c.state refl rule next
    where
      by_bare : (b : Bare Own) → not (is_ill_formed b) ≡ true → entry_fault (thread_step look) (after_bare (thread_step look) c b) f ≡ None → length (foot_of_bare (thread_step look) b) ≡ 1
      by_bare (Completed n s) r k = refl
      by_bare (Stops v about) r k = absurd (no_state (legal_at look (after_bare (thread_step look) c (Stops v about)) f k).is)
      by_bare IllFormedStep r k = absurd (cc)

      by_state : (o : Option (State Own)) → c.state ≡ o → has_rule (thread_step look) e.thread e.picks o ≡ true → entry_fault (thread_step look) (stepped_from (thread_step look) c e.thread e.picks o) f ≡ None
          → length (foot_from (thread_step look) e.thread e.picks o) ≡ 1
      by_state None here r k = absurd (no_state (sym here ∙ (legal_at look c e legal).is))
      by_state (Some s) here r k = by_bare (bare (thread_step look) s e.thread e.picks) r k

  counted : (c : Config Own) (es : List Entry) → IsSoundConfig look.program c → AreLegal (thread_step look) c es → Counted (length (feet (thread_step look) c es)) (length es) (StopsAtLast (thread_step look) c es)
  counted c [] sound legal = inl (refl, λ h. h)
  counted c (e ∷ []) sound legal =
      one e c.state (entry_sound look is well c e sound legal.0).0 (λ none. no_state (sym none ∙ (legal_at look c e legal.0).is))
  counted c (e ∷ f ∷ es) sound legal =
      let step = entry_sound look is well c e sound legal.0 in
      let next = machine_step (thread_step look) c e in
      let first = goes_on c e f step.0 legal.0 legal.1.0 in
      let all = length-append (foot_from (thread_step look) e.thread e.picks c.state) (feet (thread_step look) next (f ∷ es)) in
      more (length (feet (thread_step look) c (e ∷ f ∷ es))) (length (feet (thread_step look) next (f ∷ es))) (length (f ∷ es)) (StopsAtLast (thread_step look) next (f ∷ es)) (omega (arith, all, first)) (counted next (f ∷ es) step.1 legal.1)
    where
      more : (n m k : ℕ) (stops : Type 0) → n ≡ m + 1 → Counted m k stops → Counted n (suc k) stops
      more n m k stops is (inl (e, none)) = inl (omega arith, none)
      more n m k stops is (inr (e, some)) = inr (omega arith, some)

module _ (p : Program) (w : Schedule) (well : WellFormed p) (legal : Legal p w) where
  run_counted : Counted (length (steps_of p w)) (length w.entries) (LastStops p w)
  unfolding look_of steps_of
  run_counted =
      counted (look_of p w.start) (start_look p well w.start legal.start) well (start_config p w.start) w.entries (start_sound p well w.start legal.start) legal.entries

  -- A FOOTPRINT FOR EACH ENTRY
  pub each : (LastStops p w → ⊥) → length (steps_of p w) ≡ length w.entries
  each none = by run_counted
    where
      by : Counted (length (steps_of p w)) (length w.entries) (LastStops p w) → length (steps_of p w) ≡ length w.entries
      by (inl (e, k)) = e
      by (inr (e, some)) = absurd (none some)

  -- OR ONE FEWER, where the last entry itself stops
  pub fewer : LastStops p w → length (steps_of p w) + 1 ≡ length w.entries
  fewer some = by run_counted
    where
      by : Counted (length (steps_of p w)) (length w.entries) (LastStops p w) → length (steps_of p w) + 1 ≡ length w.entries
      by (inl (e, none)) = absurd (none some)
      by (inr (e, k)) = e
