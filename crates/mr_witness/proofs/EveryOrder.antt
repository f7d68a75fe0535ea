-- A run without a listed race comes to the same in every rearranged order.
use Rattle.mr_witness.proofs.Common.{◌≡◌, ℕ, suc, zero, ◌+◌, ◌-◌, ◌<◌, ◌≤◌, refl, sym, ◌∙◌, ap, subst, arith, List, [], ◌∷◌, ◌++◌, map, length, get_or, take, drop, None, zero-add, append-nil, length-append, range_with_len, length-map, Program, DataRace, some_race, Footprint, wakes, IsRearrangement, no_step, places, step_at, predicted, IsReported, Entry, Schedule, WellFormed, Language, State, AreLegal, Config, after, feet, machine_step, IsLook, Look, SoundState, Own, thread_step, Legal, run_of, steps_of, look_of, start_config, start_look, start_sound, IsSane, SwapLaw, sound_is_sane, entry_at, NotesThread, law_of, thread_noted, range_with_len-parts, ComesToTheSame, StandAlike, prints_of, reordered}
use Rattle.std.proofs.lemmas.List.{get_or-map, nil_from_length, take-append-drop}
use Rattle.std.proofs.lemmas.List.Sorted.{length_permutation}
use Rattle.mr_event.specs.declared.footprint.Pair.{Pair}
use Rattle.mr_event.specs.Order.{HasNoRace, IsPredicted}
use Rattle.mr_event.proofs.Tests.{predicted_is}
use Rattle.mr_exchange.specs.Shown.{AreAdjacent}
use Rattle.mr_exchange.proofs.First.{none_predicted}
use Rattle.mr_exchange.proofs.Rearranged.{none_in_rearranged, none_reported, rearranged_runs}
use Rattle.mr_base.specs.declared.reason.Verdict.TheVariants as verdict
use Rattle.mr_witness.proofs.Lists.{after_append, feet_append, feet_length, legal_append, map_append, map_places}
use Rattle.mr_witness.proofs.Recorded.{config}
use Rattle.mr_witness.proofs.Replayed.{calm_from, last_of}
use Rattle.mr_witness.proofs.OrderMoves.{Place, machine}
use Rattle.mr_witness.proofs.RecordedPlaces.{recorded}
use Rattle.mr_witness.proofs.OrderReplayed.{Replays, calm_stop, never_reported, replayed, same_stop, verdict_behind}
use Rattle.mr_witness.proofs.Drawn.{places_length}

-- ---- lists

-- the entries of legal entries behind the first ones are legal where these lead
legal_behind : {L : Type 0} (step : Language L) (c : Config L) (xs ys : List Entry) → AreLegal step c (xs ++ ys) → AreLegal step (after step c xs) ys
legal_behind step c [] ys h = h
legal_behind step c (x ∷ xs) ys h = legal_behind step (machine_step step c x) xs ys h.1

-- the first entries are those at the first places
first_entries : (es : List Entry) (n : ℕ) → n ≤ length es → map (entry_at es) (places n) ++ map (entry_at es) (range_with_len (0 + n) (length es - n)) ≡ es
first_entries es n le =
    let count : length es ≡ n + (length es - n) = omega (arith, le) in
    sym (map_append (entry_at es) (places n) (range_with_len (0 + n) (length es - n)))
    ∙ ap (map (entry_at es)) (sym (range_with_len-parts 0 n (length es - n)) ∙ ap (range_with_len 0) (sym count))
    ∙ map_places es _

take_parts : (n : ℕ) (xs ys : List Entry) → length xs ≡ n → take n (xs ++ ys) ≡ xs
take_parts zero [] ys e = refl
take_parts zero (x ∷ xs) ys e = absurd (omega (arith, e))
take_parts (suc n) [] ys e = absurd (omega (arith, e))
take_parts (suc n) (x ∷ xs) ys e = ap (λ l. x ∷ l) (take_parts n xs ys (omega (arith, e)))

-- they are the first entries
places_take : (es : List Entry) (n : ℕ) → n ≤ length es → map (entry_at es) (places n) ≡ take n es
places_take es n le =
    sym (take_parts n (map (entry_at es) (places n)) (map (entry_at es) (range_with_len (0 + n) (length es - n))) (length-map (places n) (entry_at es) ∙ places_length 0 n))
    ∙ ap (take n) (first_entries es n le)

-- ---- no step is reported

-- neighbours by their places
adjacent_from : (R : ℕ → ℕ → Type 0) (xs : List ℕ) → ((p : ℕ) → suc p < length xs → R (get_or xs p 0) (get_or xs (suc p) 0)) → AreAdjacent R xs
adjacent_from R [] f = tt
adjacent_from R (x ∷ []) f = (tt, tt)
adjacent_from R (x ∷ (y ∷ ys)) f = (f 0 (omega arith), adjacent_from R (y ∷ ys) (λ p h. f (suc p) (omega arith)))

adjacent_places : (R : ℕ → ℕ → Type 0) (a n : ℕ) → ((p : ℕ) → suc p < a + n → R p (suc p)) → AreAdjacent R (range_with_len a n)
adjacent_places R a zero f = tt
adjacent_places R a (suc zero) f = (tt, tt)
adjacent_places R a (suc (suc n)) f =
    let e : suc a ≡ a + 1 = omega arith in
    (subst (R a) e (f a (omega arith)), adjacent_places R (a + 1) (suc n) (λ p h. f p (omega arith)))

-- in a rearranged order of a run without a race pair
calm_rearranged : (run : List Footprint) (o : List ℕ) → IsRearrangement run o → HasNoRace run → AreAdjacent (λ x y. IsReported run x y → ⊥) o
calm_rearranged run o r none =
    adjacent_from (λ x y. IsReported run x y → ⊥) o
    (λ p h t.
    let fs : List Footprint = map (step_at run) o in
    let one : step_at fs p ≡ step_at run (get_or o p 0) = get_or-map (step_at run) o p 0 no_step (omega arith) in
    let two : step_at fs (suc p) ≡ step_at run (get_or o (suc p) 0) = get_or-map (step_at run) o (suc p) 0 no_step h in
    let many = length-map o (step_at run) in
    none_reported fs (λ i j lt. none_in_rearranged run o r none i j (omega (arith, many, lt))) p (omega (arith, many, h))
    (record { apart = λ e. t.apart (ap (λ (f : Footprint). f.thread) (sym one) ∙ e ∙ ap (λ (f : Footprint). f.thread) two); race = (λ k. some_race (one k).accesses (two k).accesses) ∙ t.race; asleep = (λ k. wakes (one k) (two k).thread) ∙ t.asleep }))

-- a run without a race pair has no predicted race
none_listed : (run : List Footprint) → HasNoRace run → predicted run ≡ []
none_listed run none = by (predicted run) (predicted_is run)
  where
    by : (pairs : List Pair) → IsPredicted run pairs → pairs ≡ []
    by [] h = refl
    by (p ∷ pairs) h = absurd (none p.first p.second (h.within 0 p (omega arith)) (h.listed 0 p (omega arith)).pair)

-- machines that are those that stand alike
alike_at : (c c' d d' : Config Own) → c ≡ c' → d ≡ d' → StandAlike c' d' → StandAlike c d
alike_at c c' d d' e f a = record {
  state = ap (λ (x : Config Own). x.state) e ∙ a.state ∙ sym (ap (λ (x : Config Own). x.state) f);
  prints = λ t. ap (λ (x : Config Own). prints_of t x.output) e ∙ a.prints t ∙ sym (ap (λ (x : Config Own). prints_of t x.output) f);
  completed = ap (λ (x : Config Own). x.completed) e ∙ a.completed ∙ sym (ap (λ (x : Config Own). x.completed) f);
  verdict = ap (λ (x : Config Own). x.verdict) e ∙ a.verdict ∙ sym (ap (λ (x : Config Own). x.verdict) f);
}

-- as many steps, and the same verdict
verdict_same : (xs ys : List ℕ) (s : State Own) → length xs ≡ length ys → verdict_behind xs s ≡ verdict_behind ys s
verdict_same [] [] s e = refl
verdict_same [] (y ∷ ys) s e = absurd (omega (arith, e))
verdict_same (x ∷ xs) [] s e = absurd (omega (arith, e))
verdict_same (x ∷ xs) (y ∷ ys) s e = refl

-- ---- the law

-- what entries in another order show
pub record Ordered (look : Look) (c : Config Own) (es : List Entry) (o : List ℕ) : Type 0 where
  pub legal : AreLegal (thread_step look) c (map (entry_at es) o ++ drop (length (feet (thread_step look) c es)) es)
  pub steps : feet (thread_step look) c (map (entry_at es) o ++ drop (length (feet (thread_step look) c es)) es) ≡ map (step_at (feet (thread_step look) c es)) o
  pub ends : StandAlike (after (thread_step look) c (map (entry_at es) o ++ drop (length (feet (thread_step look) c es)) es)) (after (thread_step look) c es)
  pub stands : StandAlike (after (thread_step look) c (map (entry_at es) o)) (after (thread_step look) c (take (length (feet (thread_step look) c es)) es))
  pub unreported : (after (thread_step look) c es).verdict ≡ verdict.Undefined DataRace → ⊥

module _ (look : Look) (is : IsLook look) (well : WellFormed look.program) (es : List Entry) (law : SwapLaw (thread_step look)) (noted : NotesThread look) (sane : (s : State Own) → SoundState look.program s → IsSane s) (s : State Own) (sound : SoundState look.program s) where
  abbrev start : Config Own
  start = config s [] None 0 verdict.Running

  abbrev run : List Footprint
  run = feet (thread_step look) start es

  abbrev here : Place look.program
  here = record { state = s; sound = sound; output = [] }

  -- EACH REARRANGED ORDER of a run without a race pair
  pub each_order : AreLegal (thread_step look) start es → HasNoRace run → (o : List ℕ) → IsRearrangement run o → Ordered look start es o
  each_order legal none o r =
      let step = thread_step look in
      let n = length run in
      let le : n ≤ length es = feet_length step start es in
      let rec = recorded look is well es run law noted sane 0 es (λ m lt. ap (entry_at es) (sym (zero-add m))) n s sound [] None 0 verdict.Running legal (λ m lt. ap (step_at run) (sym (zero-add m))) (omega arith) in
      let b : Place look.program = rec.0 in
      let first : Replays look es run here b None 0 (places n) =
      replayed look is well es run law noted sane (places n) here b None 0
      (calm_from run (places n) (adjacent_places (λ x y. IsReported run x y → ⊥) 0 n (λ p h. none_reported run none p (omega (arith, h))))) rec.1 in
      let second : Replays look es run here b None 0 o =
      replayed look is well es run law noted sane o here b None 0 (calm_from run o (calm_rearranged run o r none))
      (rearranged_runs run o r none (machine look is well es run law noted sane) here b rec.1) in
      let count : length o ≡ length (places n) = length_permutation (places n) o r.permutes in
      let wide : length (places n) ≡ n = places_length 0 n in
      let v = verdict_behind (places n) b.state in
      let done : ℕ = 0 + length (places n) in
      let one : Config Own = config b.state first.output (last_of run None (places n)) done v in
      let two : Config Own = config b.state second.output (last_of run None o) done v in
      let front : List Entry = take n es in
      let rest : List Entry = drop n es in
      let first_is : after step start front ≡ one = ap (after step start) (sym (places_take es n le)) ∙ first.is in
      let second_is : after step start (map (entry_at es) o) ≡ two =
      second.is ∙ (λ k. config b.state second.output (last_of run None o) (0 + count k) (verdict_same o (places n) b.state count k)) in
      let whole : front ++ rest ≡ es = take-append-drop n es in
      let legal_rest : AreLegal step one rest =
      subst (λ c. AreLegal step c rest) first_is (legal_behind step start front rest (subst (AreLegal step start) (sym whole) legal)) in
      let front_steps : feet step start front ≡ map (step_at run) (places n) = ap (feet step start) (sym (places_take es n le)) ∙ first.steps in
      let all_steps : feet step start front ++ feet step one rest ≡ run =
      (λ k. feet step start front ++ feet step (sym first_is k) rest) ∙ sym (feet_append step start front rest) ∙ ap (feet step start) whole in
      let none_rest : feet step one rest ≡ [] =
      nil_from_length (feet step one rest)
      (let x = ap length all_steps in let y = length-append (feet step start front) (feet step one rest) in let z = ap length front_steps in let w = length-map (places n) (step_at run) in omega (arith, x, y, z, w, wide)) in
      let stop = same_stop look b.state v done first.output second.output (last_of run None (places n)) (last_of run None o) (λ t. second.prints t ∙ sym (first.prints t)) rest legal_rest none_rest in
      record {
        legal = legal_append step start (map (entry_at es) o) rest second.legal (subst (λ c. AreLegal step c rest) (sym second_is) stop.0);
        steps =
            feet_append step start (map (entry_at es) o) rest
            ∙ (λ k. second.steps k ++ feet step (second_is k) rest)
            ∙ ap (λ l. map (step_at run) o ++ l) stop.1
            ∙ append-nil (map (step_at run) o);
        ends =
            alike_at (after step start (map (entry_at es) o ++ rest)) (after step two rest) (after step start es) (after step one rest)
            (after_append step start (map (entry_at es) o) rest ∙ (λ k. after step (second_is k) rest))
            (ap (after step start) (sym whole) ∙ after_append step start front rest ∙ (λ k. after step (first_is k) rest))
            stop.2;
        stands =
            alike_at (after step start (map (entry_at es) o)) two (after step start front) one second_is first_is
            (record { state = refl; prints = λ t. second.prints t ∙ sym (first.prints t); completed = refl; verdict = refl });
        unreported = λ h.
            calm_stop look b.state v done first.output (last_of run None (places n)) (never_reported (places n) b.state) rest legal_rest none_rest
            (sym (ap (λ (c : Config Own). c.verdict) (ap (after step start) (sym whole) ∙ after_append step start front rest ∙ (λ k. after step (first_is k) rest))) ∙ h);
      }

-- EVERY ORDER of a run of a well-formed program in which no race is listed
pub every_order : (p : Program) (w : Schedule) → WellFormed p → Legal p w → predicted (steps_of p w) ≡ [] → (o : List ℕ) → IsRearrangement (steps_of p w) o
    → ComesToTheSame p w o (reordered (steps_of p w) w o)
unfolding steps_of run_of start_config look_of
every_order p w well legal listed o r =
    let none : HasNoRace (steps_of p w) = none_predicted (steps_of p w) listed in
    let ordered = each_order (look_of p w.start) (start_look p well w.start legal.start) well w.entries (law_of (look_of p w.start)) (thread_noted (look_of p w.start)) (sound_is_sane p) _ (start_sound p well w.start legal.start _ refl) legal.entries none o r in
    record {
      is = refl;
      legal = record { start = legal.start; entries = ordered.legal };
      steps = ordered.steps;
      no_race = ap predicted ordered.steps ∙ none_listed (map (step_at (steps_of p w)) o) (λ i j lt. none_in_rearranged (steps_of p w) o r none i j (let many = length-map o (step_at (steps_of p w)) in omega (arith, many, lt)));
      ends = ordered.ends;
      stands = ordered.stands;
      unreported = λ h. ordered.unreported (sym ordered.ends.verdict ∙ h);
    }
