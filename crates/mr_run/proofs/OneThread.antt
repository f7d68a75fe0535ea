-- A run of thread 0 alone shows no race.
use Rattle.mr_run.proofs.Common.{◌≡◌, ℕ, zero, suc, refl, sym, ap, ◌∙◌, arith, false, List, [], ◌∷◌, ◌++◌, length, Option, Some, None, Program, Footprint, Look, Config, feet, foot_from, foot_of_bare, machine_step, Entry, Schedule, steps_of, look_of, start_config, Own, thread_step}
use Rattle.std.proofs.Common.{Bool, true, not}
use Rattle.std.proofs.lemmas.Bool.Decides.{nat_tests}
use Rattle.std.specs.List.{list_all}
use Rattle.std.specs.Prelude.{◌==◌, ◌&&◌, nat_lt, cond}
use Rattle.mr_base.specs.Accesses.{some_race}
use Rattle.mr_event.specs.Order.{step_at, thread_at}
use Rattle.mr_event.specs.Predicted.{greatest_below, happens_before, pair_with, predicted, predicted_below, race_pair}
use Rattle.mr_step.proofs.ExchangeLaw.{thread_noted}
use Rattle.mr_step.specs.PlanMachine.{Bare, Completed, IllFormedStep, State, Stops, bare}
use Rattle.mr_run.specs.Runs.{are_of_first}
use Rattle.mr_event.specs.Order as order

-- all steps are of thread 0
abbrev pub are_alone : List Footprint → Bool
are_alone run = list_all (λ f. f.thread == 0) run

both_true : (a b : Bool) → (a && b) ≡ true → (a ≡ true) × (b ≡ true)
both_true true b h = (refl, h)
both_true false b h = absurd (cc)

equal : (a b : ℕ) → (a == b) ≡ true → a ≡ b
equal a b h = grind (arith, nat_tests)

same_is : (a b : ℕ) → a ≡ b → (a == b) ≡ true
same_is a b h = grind (arith, nat_tests)

-- ---- steps of one thread have no partner

same_threads : (a b c : Bool) → (a && not true && b && c) ≡ false
same_threads true b c = refl
same_threads false b c = refl

none_below : (p : ℕ → Bool) (n : ℕ) → ((i : ℕ) → p i ≡ false) → greatest_below p n ≡ None
none_below p zero h = refl
none_below p (suc n) h = ap (λ (b : Bool). cond b (Some n) (greatest_below p n)) (h n) ∙ none_below p n h

of_one_thread : (run : List Footprint) (i j : ℕ) → (thread_at run i == thread_at run j) ≡ true → race_pair run i j ≡ false
unfolding race_pair
of_one_thread run i j e =
    ap (λ (b : Bool). nat_lt i j && not b && some_race (step_at run i).accesses (step_at run j).accesses && not (happens_before run i j)) e
    ∙ same_threads (nat_lt i j) (some_race (step_at run i).accesses (step_at run j).accesses) (not (happens_before run i j))

module _ (run : List Footprint) (no_pair : (i j : ℕ) → race_pair run i j ≡ false) where
  none_to : (n : ℕ) → predicted_below run n ≡ []
  none_to zero = refl
  none_to (suc n) = ap (λ o. predicted_below run n ++ pair_with o n) (none_below (λ i. race_pair run i n) n (λ i. no_pair i n)) ∙ ap (λ ps. ps ++ []) (none_to n)

  none_predicted : predicted run ≡ []
  unfolding predicted
  none_predicted = none_to (length run)

thread_zero : (run : List Footprint) (i : ℕ) → are_alone run ≡ true → thread_at run i ≡ 0
unfolding order.no_step
thread_zero [] i h = refl
thread_zero (f ∷ run) zero h = equal f.thread 0 (both_true (f.thread == 0) (are_alone run) h).0
thread_zero (f ∷ run) (suc i) h = thread_zero run i (both_true (f.thread == 0) (are_alone run) h).1

-- no race is predicted of them
pub none_alone : (run : List Footprint) → are_alone run ≡ true → predicted run ≡ []
none_alone run h = none_predicted run (λ i j. of_one_thread run i j (same_is (thread_at run i) (thread_at run j) (thread_zero run i h ∙ sym (thread_zero run j h))))

-- ---- entries of one thread have such steps

alone_append : (fs gs : List Footprint) → are_alone fs ≡ true → are_alone gs ≡ true → are_alone (fs ++ gs) ≡ true
alone_append [] gs h k = k
alone_append (f ∷ fs) gs h k =
    let (one, more) = both_true (f.thread == 0) (are_alone fs) h in
    ap (λ (b : Bool). b && are_alone (fs ++ gs)) one ∙ alone_append fs gs more k

alone_bare : (look : Look) (s : State Own) (t : ℕ) (picks : List ℕ) → t ≡ 0 → (b : Bare Own) → bare (thread_step look) s t picks ≡ b → are_alone (foot_of_bare (thread_step look) b) ≡ true
alone_bare look s t picks first (Completed n u) is =
    ap (λ (b : Bool). b && true) (same_is n.tally.thread 0 (thread_noted look s u t picks n is ∙ first))
alone_bare look s t picks first (Stops v about) is = refl
alone_bare look s t picks first IllFormedStep is = refl

alone_from : (look : Look) (t : ℕ) (picks : List ℕ) → t ≡ 0 → (o : Option (State Own)) → are_alone (foot_from (thread_step look) t picks o) ≡ true
alone_from look t picks first None = refl
alone_from look t picks first (Some s) = alone_bare look s t picks first (bare (thread_step look) s t picks) refl

alone_feet : (look : Look) (c : Config Own) (es : List Entry) → are_of_first es ≡ true → are_alone (feet (thread_step look) c es) ≡ true
alone_feet look c [] h = refl
alone_feet look c (e ∷ es) h =
    let (one, more) = both_true (e.thread == 0) (are_of_first es) h in
    alone_append (foot_from (thread_step look) e.thread e.picks c.state) (feet (thread_step look) (machine_step (thread_step look) c e) es)
    (alone_from look e.thread e.picks (equal e.thread 0 one) c.state)
    (alone_feet look (machine_step (thread_step look) c e) es more)

-- A RUN OF THREAD 0 ALONE shows no race
pub none_shown : (p : Program) (w : Schedule) → are_of_first w.entries ≡ true → predicted (steps_of p w) ≡ []
unfolding steps_of
none_shown p w h =
    none_alone (feet (thread_step (look_of p w.start)) (start_config p w.start) w.entries)
    (alone_feet (look_of p w.start) (start_config p w.start) w.entries h)
