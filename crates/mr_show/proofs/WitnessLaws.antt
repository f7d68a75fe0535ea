-- The schedule of a race that is listed, and what a machine reports under it.
use Rattle.mr_show.proofs.Common.{◌≡◌, ℕ, zero, suc, ◌+◌, ◌<◌, ◌≤◌, ◌==◌, ◌&&◌, refl, sym, subst, ap, ◌∙◌, arith, inl, inr, Bool, true, false, List, [], ◌∷◌, length, Option, None, Some, Program, Footprint, Schedule, Read, Version, PlacedFault, schedule_fault, steps_of, WellFormed, told}
use Rattle.std.proofs.Common.{zero-add, cond, not, get_or, length-append}
use Rattle.std.proofs.lemmas.Bool.{both_ways, cases_Bool, cases_lt, eq-eqb, eqb-true}
use Rattle.std.proofs.lemmas.List.{get_or_past, length-map}
use Rattle.std.proofs.lemmas.List.FromFn.{get_or-range_with_len, length-range_with_len}
use Rattle.std.specs.List.{filter}
use Rattle.std.specs.Prelude.{Contains}
use Rattle.mr_base.specs.Accesses.{some_race}
use Rattle.mr_base.specs.Reasons.{code_of}
use Rattle.mr_base.specs.declared.access.Access.{Access}
use Rattle.mr_base.specs.declared.reason.Reason.{Reason}
use Rattle.mr_base.specs.declared.reason.Reason.TheVariants.{DataRace}
use Rattle.mr_base.specs.declared.reason.Verdict.{Verdict}
use Rattle.mr_base.specs.declared.reason.Verdict.TheVariants.{Abort, Deadlock, Exit, Leak, Running, Undefined}
use Rattle.mr_event.specs.Kept.{selected}
use Rattle.mr_event.specs.Order.{HasNoPartner, IsGreatestPartner, RacePair, no_step, places, step_at}
use Rattle.mr_event.specs.Predicted.{predicted}
use Rattle.mr_event.specs.declared.footprint.Pair.{Pair}
use Rattle.mr_event.proofs.Tests.{predicted_is}
use Rattle.mr_sched.specs.Versions.{text_in}
use Rattle.mr_start.specs.Runs.{Legal, run_of}
use Rattle.mr_start.proofs.RunLaws.{legal_schedule, no_schedule_fault}
use Rattle.mr_step.specs.ExchangeWitness.{IsWitness, entry_at, kept_schedule, schedule_at}
use Rattle.mr_run.proofs.ExchangeFirst.{partner_of_predicted}
use Rattle.mr_run.proofs.WitnessKept.{first_witness}
use Rattle.mr_run.proofs.WitnessShortWitness.{first_short}
use Rattle.mr_run.specs.Witnesses.{race_of, witness_by}
use Rattle.mr_run.specs.declared.witnesses.Selection.{Selection}
use Rattle.mr_run.specs.declared.witnesses.Selection.TheVariants.{Kept, Needed}
use Rattle.mr_input.specs.Answer.{Answer}
use Rattle.mr_answer.specs.Answers.{ran, unless_broken}
use Rattle.mr_answer.specs.Report.{report_status}
use Rattle.mr_show.specs.Witness.{EndsInRace, IsToldOf, ends_in_race, found_text, is_race, ran_told, reports_race, shown_text, unlisted_text, witness_text, witness_under}

-- ---- the race of a step

-- it is one of the list
pub found_listed : (step : ℕ) (races : List Pair) (pair : Pair) → race_of step races ≡ Some pair → Contains races pair
found_listed step [] pair e = absurd (cc)
found_listed step (p ∷ races) pair e =
    elim (cases_Bool (p.second == step)) [
      | inl holds ↦
          let same : Some p ≡ Some pair = sym (ap (λ b. cond b (Some p) (race_of step races)) holds) ∙ e in
          let at : p ≡ pair = cc in
          (0, omega arith, at)
      | inr fails ↦
          let rest = found_listed step races pair (sym (ap (λ b. cond b (Some p) (race_of step races)) fails) ∙ e) in
          let lt = rest.1 in
          (suc rest.0, omega (arith, lt), rest.2)
    ]

-- of the first of a list it is that one
found_first : (pair : Pair) (races : List Pair) → race_of pair.second (pair ∷ races) ≡ Some pair
found_first pair races =
    ap (λ b. cond b (Some pair) (race_of pair.second races)) (eq-eqb pair.second pair.second refl)

-- and it is of this step
found_at : (step : ℕ) (races : List Pair) (pair : Pair) → race_of step races ≡ Some pair → pair.second ≡ step
found_at step [] pair e = absurd (cc)
found_at step (p ∷ races) pair e =
    elim (cases_Bool (p.second == step)) [
      | inl holds ↦
          let same : Some p ≡ Some pair = sym (ap (λ b. cond b (Some p) (race_of step races)) holds) ∙ e in
          let at : p ≡ pair = cc in
          sym (ap (λ (q : Pair). q.second) at) ∙ eqb-true p.second step holds
      | inr fails ↦ found_at step races pair (sym (ap (λ b. cond b (Some p) (race_of step races)) fails) ∙ e)
    ]

-- THE RACE OF A STEP is that with its greatest partner
pub partner_listed : (step : ℕ) (run : List Footprint) (pair : Pair) → race_of step (predicted run) ≡ Some pair
    → (pair.second ≡ step) × IsGreatestPartner run pair.first step
partner_listed step run pair e =
    let at : pair.second ≡ step = found_at step (predicted run) pair e in (
      at,
      subst (IsGreatestPartner run pair.first) at
          (partner_of_predicted run pair (found_listed step (predicted run) pair e)),
    )

-- ---- a step without one

some_none : {A : Type 0} {x : A} → ◌≡◌ {A = Option A} (Some x) None → ⊥
some_none e = cc

none_found : (step : ℕ) (races : List Pair) → race_of step races ≡ None → (k : ℕ) (x : Pair) → k < length races
    → get_or races k x ≡ x → x.second ≡ step → ⊥
none_found step [] none k x lt at is = omega (arith, lt)
none_found step (p ∷ races) none zero x lt at is =
    some_none (sym (ap (λ b. cond b (Some p) (race_of step races))
    (eq-eqb p.second step (ap (λ (q : Pair). q.second) at ∙ is))) ∙ none)
none_found step (p ∷ races) none (suc k) x lt at is =
    elim (cases_Bool (p.second == step)) [
      | inl holds ↦ absurd (some_none (sym (ap (λ b. cond b (Some p) (race_of step races)) holds) ∙ none))
      | inr fails ↦
          none_found step races (sym (ap (λ b. cond b (Some p) (race_of step races)) fails) ∙ none) k x
          (omega (arith, lt)) at is
    ]

none_race : (xs : List Access) → some_race xs [] ≡ false
unfolding some_race
none_race [] = refl
none_race (x ∷ xs) = none_race xs

-- behind the last step there is none
past_none : (run : List Footprint) (i j : ℕ) → length run ≤ j → RacePair run i j → ⊥
unfolding no_step
past_none run i j past pair =
    let accesses : List Access = (step_at run i).accesses in
    let none : (step_at run j).accesses ≡ [] = ap (λ (f : Footprint). f.accesses) (get_or_past run j no_step past) in
    both_ways (some_race accesses []) (none_race accesses)
    (subst (λ (xs : List Access). some_race accesses xs ≡ true) none pair.races.race)

-- A STEP FOR WHICH NO RACE IS LISTED has no partner
pub none_partner : (step : ℕ) (run : List Footprint) → race_of step (predicted run) ≡ None → HasNoPartner run step
none_partner step run none i pair =
    elim (cases_lt step (length run)) [
      | inl within ↦
          let t = (predicted_is run).complete i step within pair in
          none_found step (predicted run) none t.0 t.1 t.2 t.3 t.4
      | inr past ↦ past_none run i step past pair
    ]

-- ---- its schedule has no more entries than the run's

module _ (test : ℕ → Bool) (x : ℕ) (xs : List ℕ) where
  one_more : test x ≡ true → length (filter test (x ∷ xs)) ≡ suc (length (filter test xs))
  one_more holds = ap (λ (b : Bool). length (cond b (x ∷ filter test xs) (filter test xs))) holds

  none_more : test x ≡ false → length (filter test (x ∷ xs)) ≡ length (filter test xs)
  none_more fails = ap (λ (b : Bool). length (cond b (x ∷ filter test xs) (filter test xs))) fails

at_most : (test : ℕ → Bool) (xs : List ℕ) → length (filter test xs) ≤ length xs
at_most test [] = omega arith
at_most test (x ∷ xs) =
    let rest = at_most test xs in
    elim (cases_Bool (test x)) [
      | inl holds ↦ let e = one_more test x xs holds in omega (arith, e, rest)
      | inr fails ↦ let e = none_more test x xs fails in omega (arith, e, rest)
    ]

-- a choice that leaves one out
fewer : (test : ℕ → Bool) (xs : List ℕ) (k : ℕ) → k < length xs → test (get_or xs k 0) ≡ false
    → length (filter test xs) + 1 ≤ length xs
fewer test [] k lt fails = absurd (omega (arith, lt))
fewer test (x ∷ xs) zero lt fails =
    let e = none_more test x xs fails in
    let rest = at_most test xs in
    omega (arith, e, rest)
fewer test (x ∷ xs) (suc k) lt fails =
    let rest = fewer test xs k (omega (arith, lt)) fails in
    elim (cases_Bool (test x)) [
      | inl holds ↦ let e = one_more test x xs holds in omega (arith, e, rest)
      | inr out ↦ let e = none_more test x xs out in omega (arith, e, rest)
    ]

none_but : (b c : Bool) → c ≡ true → (b && not c) ≡ false
none_but true c e = ap not e
none_but false c e = refl

-- whether another step than this one is kept
abbrev keeps_but : (ℕ → Bool) → ℕ → ℕ → Bool
keeps_but keep i k = keep k && not (k == i)

selected_few : (keep : ℕ → Bool) (i j : ℕ) → i < j → length (selected keep i j) ≤ j + 1
selected_few keep i j lt =
    let long : length (places j) ≡ j = length-range_with_len 0 j in
    let at : get_or (places j) i 0 ≡ i = get_or-range_with_len 0 j i 0 lt ∙ zero-add i in
    let out : keeps_but keep i (get_or (places j) i 0) ≡ false =
    ap (keeps_but keep i) at ∙ none_but (keep i) (i == i) (eq-eqb i i refl) in
    let few = fewer (keeps_but keep i) (places j) i (omega (arith, long, lt)) out in
    let both : length (selected keep i j) ≡ length (filter (keeps_but keep i) (places j)) + 2 =
    length-append (filter (keeps_but keep i) (places j)) (i ∷ j ∷ []) in
    omega (arith, few, both, long)

entries_few : (keep : ℕ → Bool) (w : Schedule) (i j n : ℕ) → i < j → j < n
    → length (schedule_at w (selected keep i j)).entries ≤ n
entries_few keep w i j n lt within =
    let few = selected_few keep i j lt in
    let same = length-map (selected keep i j) (entry_at w.entries) in
    omega (arith, few, same, within)

pub witness_few : (selection : Selection) (run : List Footprint) (w : Schedule) (i j n : ℕ) → i < j → j < n
    → length (witness_by selection run w i j).entries ≤ n
unfolding kept_schedule
witness_few Kept run w i j n lt within = entries_few _ w i j n lt within
witness_few Needed run w i j n lt within = entries_few _ w i j n lt within

-- ---- the first race

-- a schedule that breaks no rule, and whose run ends in a data race, is reported
so_reported : (p : Program) (w : Schedule) → EndsInRace p w → reports_race p w ≡ true
so_reported p w ends =
    ap (λ (f : Option PlacedFault). ends_in_race f (run_of p w).verdict) (no_schedule_fault p w ends.0)
    ∙ ap is_race ends.1

witness_reported : (p : Program) (w v : Schedule) (i j : ℕ) → IsWitness p w i j v → reports_race p v ≡ true
witness_reported p w v i j is = so_reported p v (is.legal, is.race)

first_reported : (selection : Selection) (p : Program) (w : Schedule) → WellFormed p → Legal p w → (pair : Pair)
    (races : List Pair) → predicted (steps_of p w) ≡ pair ∷ races
    → reports_race p (witness_by selection (steps_of p w) w pair.first pair.second) ≡ true
first_reported Kept p w well legal pair races e =
    witness_reported p w _ pair.first pair.second (first_witness p w well legal pair races e)
first_reported Needed p w well legal pair races e =
    witness_reported p w _ pair.first pair.second (first_short p w well legal pair races e)

-- under a schedule that breaks no rule, what the run tells
under_legal : (step : ℕ) (selection : Selection) (p : Program) (r : Read) → Legal p r.schedule
    → witness_under step selection p r ≡ ran_told step selection p r (ran p r.schedule)
under_legal step selection p r legal =
    ap (λ (f : Option PlacedFault).
    told (ran_told step selection p r) (unless_broken r.version r.schedule f (ran p r.schedule)))
    (no_schedule_fault p r.schedule legal)

-- THE SCHEDULE OF THE FIRST RACE IS TOLD
pub first_told : (selection : Selection) (p : Program) (r : Read) → WellFormed p → Legal p r.schedule → (pair : Pair)
    (races : List Pair) → predicted (steps_of p r.schedule) ≡ pair ∷ races
    → witness_under pair.second selection p r ≡ record {
      text = text_in r.version (witness_by selection (steps_of p r.schedule) r.schedule pair.first pair.second);
      status = 1;
    }
first_told selection p r well legal pair races e =
    let steps = steps_of p r.schedule in
    let found = witness_by selection steps r.schedule pair.first pair.second in
    let verdict = (run_of p r.schedule).verdict in
    let say : List ℕ → ℕ → Answer = λ text status. record { text = text; status = status } in
    under_legal pair.second selection p r legal
    ∙ ap (λ (listed : List Pair). say (witness_text pair.second selection p r steps (race_of pair.second listed))
    (report_status verdict listed)) e
    ∙ ap (λ (o : Option Pair). say (witness_text pair.second selection p r steps o) 1) (found_first pair races)
    ∙ ap (λ (b : Bool). say (found_text r.version pair found b) 1)
    (first_reported selection p r.schedule well legal pair races e)

-- ---- what is told

raced : ((r s : Reason) → code_of r ≡ code_of s → r ≡ s) → (v : Verdict) → is_race v ≡ true → v ≡ Undefined DataRace
raced differ Running h = absurd (cc)
raced differ Exit h = absurd (cc)
raced differ Leak h = absurd (cc)
raced differ Abort h = absurd (cc)
raced differ Deadlock h = absurd (cc)
raced differ (Undefined reason) h =
    ap Undefined (differ reason DataRace (eqb-true (code_of reason) (code_of DataRace) h))

reported_so : ((r s : Reason) → code_of r ≡ code_of s → r ≡ s) → (p : Program) (w : Schedule)
    → reports_race p w ≡ true → EndsInRace p w
reported_so differ p w h = by (schedule_fault p w) refl h
  where
    by : (f : Option PlacedFault) → schedule_fault p w ≡ f → ends_in_race f (run_of p w).verdict ≡ true
        → EndsInRace p w
    by None none h = (legal_schedule p w none, raced differ (run_of p w).verdict h)
    by (Some f) some h = absurd (cc)

race_told : ((r s : Reason) → code_of r ≡ code_of s → r ≡ s) → (p : Program) (v : Version) (pair : Pair)
    (found : Schedule) → IsToldOf p v pair found (shown_text p v pair found)
race_told differ p v pair found =
    elim (cases_Bool (reports_race p found)) [
      | inl holds ↦ inl (reported_so differ p found holds, ap (found_text v pair found) holds)
      | inr fails ↦
          inr (
            (λ ends. both_ways (reports_race p found) fails (so_reported p found ends)),
            ap (found_text v pair found) fails,
          )
    ]

text_under : (step : ℕ) (selection : Selection) (p : Program) (r : Read) → Legal p r.schedule → (o : Option Pair)
    → race_of step (predicted (steps_of p r.schedule)) ≡ o
    → (witness_under step selection p r).text ≡ witness_text step selection p r (steps_of p r.schedule) o
text_under step selection p r legal o e =
    ap (λ (a : Answer). a.text) (under_legal step selection p r legal)
    ∙ ap (witness_text step selection p r (steps_of p r.schedule)) e

-- OF A RACE its schedule is told if the run of this ends in a data race, and else that an earlier one is in its way
pub listed_told : ((r s : Reason) → code_of r ≡ code_of s → r ≡ s) → (step : ℕ) (selection : Selection) (p : Program)
    (r : Read) → Legal p r.schedule → (pair : Pair) → race_of step (predicted (steps_of p r.schedule)) ≡ Some pair
    → IsToldOf p r.version pair (witness_by selection (steps_of p r.schedule) r.schedule pair.first pair.second)
    (witness_under step selection p r).text
listed_told differ step selection p r legal pair e =
    let found = witness_by selection (steps_of p r.schedule) r.schedule pair.first pair.second in
    subst (IsToldOf p r.version pair found) (sym (text_under step selection p r legal (Some pair) e))
    (race_told differ p r.version pair found)

-- OF A STEP WITHOUT ONE that it races with no earlier step
pub unlisted_told : (step : ℕ) (selection : Selection) (p : Program) (r : Read) → Legal p r.schedule
    → race_of step (predicted (steps_of p r.schedule)) ≡ None
    → (witness_under step selection p r).text ≡ unlisted_text step
unlisted_told step selection p r legal e = text_under step selection p r legal None e
