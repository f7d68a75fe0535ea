-- A run of thread 0 alone has no race by either order, so that what is told of its races needs no footprint.
use Rattle.mr_show.proofs.Common.{◌≡◌, ℕ, zero, suc, refl, sym, subst, ap, ap₂, inl, inr, ◌∙◌, arith, Bool, true, false, List, [], ◌∷◌, ◌++◌, length, Option, Some, None, ◌==◌, ◌&&◌, flat_map, Result, Ok, Err, Program, Footprint, Entry, Schedule, Standing, steps_of, RunFault, RunAnswer, Stand, Seen, either, Answer, spoken_of, Part, part_answer, IsToldAs, gathered}
use Rattle.std.proofs.lemmas.Bool.Decides.{nat_tests}
use Rattle.mr_event.specs.Order.{thread_at}
use Rattle.mr_event.specs.Predicted.{predicted}
use Rattle.mr_event.specs.declared.footprint.Pair.{Pair}
use Rattle.mr_step.proofs.ExchangeLaw.{thread_noted}
use Rattle.mr_step.specs.FrameFrames.{Look}
use Rattle.mr_step.specs.PlanMachine.{Bare, Completed, IllFormedStep, State, Stops, bare}
use Rattle.mr_step.specs.PlanRuns.{Config, feet, foot_from, foot_of_bare, machine_step}
use Rattle.mr_step.specs.StartStart.{look_of, start_config}
use Rattle.mr_step.specs.ThreadSteps.{Own, thread_step}
use Rattle.mr_start.specs.Runs.{run_of}
use Rattle.mr_run.specs.Runs.{are_of_first}
use Rattle.mr_run.proofs.OneThread.{are_alone, none_alone, none_shown}
use Rattle.mr_rust_order.specs.Tests.{rust_races}
use Rattle.mr_rust_order.proofs.OneList.{none_listed, one_list}
use Rattle.mr_rust_order.proofs.TestLaws.{rust_races_are}
use Rattle.mr_listing.specs.Races.{ranked}
use Rattle.mr_two_orders.specs.Standing.{head_line}
use Rattle.mr_two_orders.specs.Texts.{machine_text, rust_texts, two_orders_text}
use Rattle.mr_answer.specs.Report.{report_status}
use Rattle.mr_replay.specs.Stands.{stands_of}
use Rattle.mr_show.specs.declared.form.Part.TheVariants.{Races, TwoOrders}
use Rattle.mr_show.specs.Answer.{IsOfRaces}
use Rattle.mr_event.specs.Order as order

both_true : (a b : Bool) → (a && b) ≡ true → (a ≡ true) × (b ≡ true)
both_true true b h = (refl, h)
both_true false b h = absurd (cc)

equal : (a b : ℕ) → (a == b) ≡ true → a ≡ b
equal a b h = grind (arith, nat_tests)

same_is : (a b : ℕ) → a ≡ b → (a == b) ≡ true
same_is a b h = grind (arith, nat_tests)

-- ---- the footprints of entries of thread 0

alone_append : (fs gs : List Footprint) → are_alone fs ≡ true → are_alone gs ≡ true → are_alone (fs ++ gs) ≡ true
alone_append [] gs h k = k
alone_append (f ∷ fs) gs h k =
    let (one, more) = both_true (f.thread == 0) (are_alone fs) h in
    ap (λ (b : Bool). b && are_alone (fs ++ gs)) one ∙ alone_append fs gs more k

alone_bare : (look : Look) (s : State Own) (t : ℕ) (picks : List ℕ) → t ≡ 0 → (b : Bare Own) → bare (thread_step look) s t picks ≡ b → are_alone (foot_of_bare (thread_step look) b) ≡ true
alone_bare look s t picks first (Completed n u) is =
    ap (λ (b : Bool). b && true) (same_is n.tally.thread 0 (thread_noted look s u t picks n is ∙ first))
alone_bare look s t picks first (Stops v about) is = refl
alone_bare look s t picks first IllFormedStep is = refl

alone_from : (look : Look) (t : ℕ) (picks : List ℕ) → t ≡ 0 → (o : Option (State Own)) → are_alone (foot_from (thread_step look) t picks o) ≡ true
alone_from look t picks first None = refl
alone_from look t picks first (Some s) = alone_bare look s t picks first (bare (thread_step look) s t picks) refl

alone_feet : (look : Look) (c : Config Own) (es : List Entry) → are_of_first es ≡ true → are_alone (feet (thread_step look) c es) ≡ true
alone_feet look c [] h = refl
alone_feet look c (e ∷ es) h =
    let (one, more) = both_true (e.thread == 0) (are_of_first es) h in
    alone_append (foot_from (thread_step look) e.thread e.picks c.state) (feet (thread_step look) (machine_step (thread_step look) c e) es)
    (alone_from look e.thread e.picks (equal e.thread 0 one) c.state)
    (alone_feet look (machine_step (thread_step look) c e) es more)

alone_steps : (p : Program) (w : Schedule) → are_of_first w.entries ≡ true → are_alone (steps_of p w) ≡ true
unfolding steps_of
alone_steps p w h = alone_feet (look_of p w.start) (start_config p w.start) w.entries h

-- ---- they have no race by Rust's order

thread_zero : (run : List Footprint) (i : ℕ) → are_alone run ≡ true → thread_at run i ≡ 0
unfolding order.no_step
thread_zero [] i h = refl
thread_zero (f ∷ run) zero h = equal f.thread 0 (both_true (f.thread == 0) (are_alone run) h).0
thread_zero (f ∷ run) (suc i) h = thread_zero run i (both_true (f.thread == 0) (are_alone run) h).1

none_by_rust : (run : List Footprint) → are_alone run ≡ true → rust_races run ≡ []
none_by_rust run h =
    one_list run (rust_races run) [] (rust_races_are run)
    (none_listed run (λ i j r. r.apart (thread_zero run i h ∙ sym (thread_zero run j h))))

-- ---- what is told where there is no race

-- by two orders the same is told, whatever else the runs are
two_alike : (s t : Seen) → rust_races s.feet ≡ [] → rust_races t.feet ≡ []
    → two_orders_text (record s { races = [] }) ≡ two_orders_text (record t { races = [] })
two_alike s t here there =
    ap (λ (r : List Pair). told s r) here ∙ sym (ap (λ (r : List Pair). told t r) there)
  where
    told : Seen → List Pair → List ℕ
    told q r =
        head_line (length r) (length (ranked (record q { races = r }))) 0 0
        ++ rust_texts (record q { races = [] }) (ranked (record q { races = r }))
        ++ flat_map (machine_text (record q { races = [] })) []

module _ (text : List ℕ) (p : Program) (w : Schedule) (alone : are_of_first w.entries ≡ true) where
  -- what is made of a run without footprints, or of all that it has
  abbrev without : Config Own → Seen
  without c = gathered text p c (length w.entries) [] [] [] []

  abbrev with_all : Config Own → Seen
  with_all c = gathered text p c (length w.entries) [] [] (stands_of p w) (steps_of p w)

  races_told : (c : Config Own) → part_answer Races (spoken_of p w) [] (without c) ≡ part_answer Races (spoken_of p w) [] (with_all c)
  races_told c =
      ap (λ (pairs : List Pair). part_answer Races (spoken_of p w) [] (record (without c) { races = pairs })) (none_alone [] refl)
      ∙ sym (ap (λ (pairs : List Pair). part_answer Races (spoken_of p w) [] (record (with_all c) { races = pairs })) (none_shown p w alone))

  orders_told : (c : Config Own)
      → part_answer TwoOrders (spoken_of p w) [] (without c) ≡ part_answer TwoOrders (spoken_of p w) [] (with_all c)
  orders_told c =
      let said : List ℕ → List Pair → Answer = λ xs rust. record { text = xs; status = report_status c.verdict (either rust []) } in
      let here = none_by_rust [] refl in
      let there = none_by_rust (steps_of p w) (alone_steps p w alone) in
      ap (λ (pairs : List Pair). part_answer TwoOrders (spoken_of p w) [] (record (without c) { races = pairs })) (none_alone [] refl)
      ∙ ap₂ said (two_alike (without c) (with_all c) here there) (here ∙ sym there)
      ∙ sym (ap (λ (pairs : List Pair). part_answer TwoOrders (spoken_of p w) [] (record (with_all c) { races = pairs })) (none_shown p w alone))

  -- ITS RACES ARE TOLD without its footprints
  pub alone_told : (outcome : Result Standing RunFault) → RunAnswer p w outcome → (part : Part) → IsOfRaces part
      → IsToldAs part text p w [] [] [] [] outcome
  alone_told (Err f) run part is = tt
  alone_told (Ok m) run part (inl is) =
      subst (λ (q : Part). IsToldAs q text p w [] [] [] [] (Ok m)) (sym is)
      (ap (λ (c : Config Own). part_answer Races (spoken_of p w) [] (without c)) run.config ∙ races_told (run_of p w))
  alone_told (Ok m) run part (inr is) =
      subst (λ (q : Part). IsToldAs q text p w [] [] [] [] (Ok m)) (sym is)
      (ap (λ (c : Config Own). part_answer TwoOrders (spoken_of p w) [] (without c)) run.config ∙ orders_told (run_of p w))
