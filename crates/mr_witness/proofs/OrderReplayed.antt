-- Moves as a run of entries, none of which the race check reports; and the same entry behind either of two such runs.
use Rattle.mr_witness.proofs.Common.{◌≡◌, ℕ, ◌+◌, refl, sym, ◌∙◌, ap, subst, arith, List, [], ◌∷◌, ◌++◌, map, length, Bool, true, false, Option, Some, if◌then◌else◌, DataRace, Verdict, Footprint, step_at, Runs, Entry, WellFormed, Bare, Completed, IllFormedStep, State, Stops, bare, AreLegal, Config, Printed, after, after_bare, entry_fault, feet, foot_in, foot_of_bare, machine_step, races_with, verdict_after, IsLook, Look, SoundState, Own, thread_step, IsSane, SwapLaw, NotesThread, entry_at, StandAlike, prints_of}
use Rattle.mr_exchange.specs.SyncTables.{is_any_enabled}
use Rattle.mr_witness.specs.PlanQueries.{tables_of}
use Rattle.mr_base.specs.declared.reason.Verdict.TheVariants as verdict
use Rattle.mr_witness.proofs.Runs.{never_raced as never_raced_itself}
use Rattle.mr_witness.proofs.Recorded.{config, none_legal}
use Rattle.mr_witness.proofs.Replayed.{AreCalm, last_of, legal_enabled}
use Rattle.mr_witness.proofs.OrderMoves.{AreSame, Goes, Place, machine}

-- ---- the verdict behind steps that aren't reported

-- whether the threads go on in this state
abbrev pub goes_on_in : State Own → Verdict
goes_on_in s = if is_any_enabled (tables_of s.shared) then verdict.Running else verdict.Deadlock

-- the verdict behind some steps, of which the last led to this state; the machine runs before the first
abbrev pub verdict_behind : List ℕ → State Own → Verdict
verdict_behind [] s = verdict.Running
verdict_behind (x ∷ xs) s = goes_on_in s

never_raced : (b : Bool) → (if b then verdict.Running else verdict.Deadlock) ≡ verdict.Undefined DataRace → ⊥
never_raced true h = cc
never_raced false h = cc

pub never_reported : (xs : List ℕ) (s : State Own) → verdict_behind xs s ≡ verdict.Undefined DataRace → ⊥
never_reported [] s h = cc
never_reported (x ∷ xs) s h = never_raced (is_any_enabled (tables_of s.shared)) h

-- ---- the run

-- Where a running machine stands behind some moves: where they lead, with the same prints; each entry was legal, and its
-- steps are the recorded ones.
pub record Replays (look : Look) (es : List Entry) (run : List Footprint) (a b : Place look.program) (last : Option Footprint) (completed : ℕ) (xs : List ℕ) : Type 0 where
  pub output : List Printed
  pub prints : (t : ℕ) → prints_of t output ≡ prints_of t b.output
  pub is : after (thread_step look) (config a.state a.output last completed verdict.Running) (map (entry_at es) xs) ≡ config b.state output (last_of run last xs) (completed + length xs) (verdict_behind xs b.state)
  pub legal : AreLegal (thread_step look) (config a.state a.output last completed verdict.Running) (map (entry_at es) xs)
  pub steps : feet (thread_step look) (config a.state a.output last completed verdict.Running) (map (entry_at es) xs) ≡ map (step_at run) xs

module _ (look : Look) (is : IsLook look) (well : WellFormed look.program) (es : List Entry) (run : List Footprint) (law : SwapLaw (thread_step look)) (noted : NotesThread look) (sane : (s : State Own) → SoundState look.program s → IsSane s) where
  abbrev Moves : Place look.program → List ℕ → Place look.program → Type 0
  Moves a ks b = Runs (machine look is well es run law noted sane) a ks b

  -- the verdict behind one step, where it isn't reported
  quietly : (last : Option Footprint) (f : Footprint) (s : State Own) → races_with f last ≡ false → verdict_after last f s ≡ goes_on_in s
  quietly last f s calm = rw calm refl

  -- where one more step is taken, the machine runs
  enabled_next : (u b : Place look.program) (y : ℕ) (ys : List ℕ) → Moves u (y ∷ ys) b → goes_on_in u.state ≡ verdict.Running
  enabled_next u b y ys h =
      let on : is_any_enabled (tables_of u.state.shared) ≡ true = legal_enabled (thread_step look) u.state _ _ h.1.takes.legal in
      rw on refl

  -- where the machine stands behind one step that isn't reported
  behind_one : (x : ℕ) (a u : Place look.program) (last : Option Footprint) (completed : ℕ) → races_with (step_at run x) last ≡ false → Goes look es run a x u
      → after_bare (thread_step look) (config a.state a.output last completed verdict.Running) (bare (thread_step look) a.state (entry_at es x).thread (entry_at es x).picks) ≡ config u.state u.output (Some (step_at run x)) (completed + 1) (goes_on_in u.state)
  behind_one x a u last completed calm g =
      let f = g.takes in
      let foot : foot_in (thread_step look) f.notes u.state ≡ step_at run x = f.foot in
      let quiet : races_with (foot_in (thread_step look) f.notes u.state) last ≡ false = (λ k. races_with (foot k) last) ∙ calm in
      ap (after_bare (thread_step look) (config a.state a.output last completed verdict.Running)) f.completes
      ∙ (λ k. config u.state (sym g.output k) (Some (foot k)) (completed + 1) (quietly last (foot_in (thread_step look) f.notes u.state) u.state quiet k))

  told_one : (x : ℕ) (a u : Place look.program) → Goes look es run a x u → foot_of_bare (thread_step look) (bare (thread_step look) a.state (entry_at es x).thread (entry_at es x).picks) ≡ step_at run x ∷ []
  told_one x a u g = ap (foot_of_bare (thread_step look)) g.takes.completes ∙ ap (λ (f : Footprint). f ∷ []) g.takes.foot

  -- ALL STEPS GO, but for the last, behind which no thread may be enabled
  pub replayed : (xs : List ℕ) (a b : Place look.program) (last : Option Footprint) (completed : ℕ) → AreCalm run last xs → Moves a xs b → Replays look es run a b last completed xs
  unfolding machine_step entry_fault
  replayed [] a b last completed calm h =
      let same : completed ≡ completed + 0 = omega arith in
      record {
        output = a.output;
        prints = h.prints;
        is = λ k. config (h.state k) a.output last (same k) verdict.Running;
        legal = tt;
        steps = refl;
      }
  replayed (x ∷ []) a b last completed calm h =
      let u = h.0 in
      let end : AreSame u b = h.2 in
      let same : completed + 1 ≡ completed + length (x ∷ []) = omega arith in
      record {
        output = u.output;
        prints = end.prints;
        is = behind_one x a u last completed calm.0 h.1 ∙ (λ k. config (end.state k) u.output (Some (step_at run x)) (same k) (goes_on_in (end.state k)));
        legal = (h.1.takes.legal, tt);
        steps = ap (λ l. l ++ []) (told_one x a u h.1);
      }
  replayed (x ∷ (y ∷ ys)) a b last completed calm h =
      let step = thread_step look in
      let u = h.0 in
      let there : Config Own = config u.state u.output (Some (step_at run x)) (completed + 1) verdict.Running in
      let gone : after_bare (thread_step look) (config a.state a.output last completed verdict.Running) (bare step a.state (entry_at es x).thread (entry_at es x).picks) ≡ there =
      behind_one x a u last completed calm.0 h.1 ∙ (λ k. config u.state u.output (Some (step_at run x)) (completed + 1) (enabled_next u b y ys h.2 k)) in
      let later = replayed (y ∷ ys) u b (Some (step_at run x)) (completed + 1) calm.1 h.2 in
      let same : (completed + 1) + length (y ∷ ys) ≡ completed + length (x ∷ (y ∷ ys)) = omega arith in
      record {
        output = later.output;
        prints = later.prints;
        is = (λ k. after step (gone k) (map (entry_at es) (y ∷ ys))) ∙ later.is ∙ (λ k. config b.state later.output (last_of run last (x ∷ (y ∷ ys))) (same k) (goes_on_in b.state));
        legal = (h.1.takes.legal, subst (λ (c : Config Own). AreLegal step c (map (entry_at es) (y ∷ ys))) (sym gone) later.legal);
        steps = (λ k. told_one x a u h.1 k ++ feet step (gone k) (map (entry_at es) (y ∷ ys))) ∙ ap (λ (l : List Footprint). step_at run x ∷ l) later.steps;
      }

-- ---- entries behind two runs that stand alike

module _ (look : Look) (s : State Own) (v : Verdict) (completed : ℕ) (out1 out2 : List Printed) (last1 last2 : Option Footprint) (same : (t : ℕ) → prints_of t out2 ≡ prints_of t out1) where
  abbrev one : Config Own
  one = config s out1 last1 completed v

  abbrev two : Config Own
  two = config s out2 last2 completed v

  -- what entries come to that complete nothing
  abbrev StopAlike : Config Own → Config Own → List Entry → Type 0
  StopAlike c d es = AreLegal (thread_step look) d es × (feet (thread_step look) d es ≡ []) × StandAlike (after (thread_step look) d es) (after (thread_step look) c es)

  stopped_alike : (es : List Entry) (b : Bare Own) → AreLegal (thread_step look) (after_bare (thread_step look) one b) es → foot_of_bare (thread_step look) b ++ feet (thread_step look) (after_bare (thread_step look) one b) es ≡ []
      → AreLegal (thread_step look) (after_bare (thread_step look) two b) es × (foot_of_bare (thread_step look) b ++ feet (thread_step look) (after_bare (thread_step look) two b) es ≡ []) × StandAlike (after (thread_step look) (after_bare (thread_step look) two b) es) (after (thread_step look) (after_bare (thread_step look) one b) es)
  stopped_alike es (Completed n t) legal none = absurd (let l = ap length none in omega (arith, l))
  stopped_alike es (Stops w about) legal none =
      subst (StopAlike (after_bare (thread_step look) one (Stops w about)) (after_bare (thread_step look) two (Stops w about))) (sym (none_legal (thread_step look) (after_bare (thread_step look) one (Stops w about)) es refl legal))
      (tt, refl, record { state = refl; prints = same; completed = refl; verdict = refl })
  stopped_alike es IllFormedStep legal none =
      subst (StopAlike (after_bare (thread_step look) one IllFormedStep) (after_bare (thread_step look) two IllFormedStep)) (sym (none_legal (thread_step look) (after_bare (thread_step look) one IllFormedStep) es refl legal))
      (tt, refl, record { state = refl; prints = same; completed = refl; verdict = refl })

  -- WHAT COMPLETES NOTHING behind the one run completes nothing behind the other, and both end alike
  pub same_stop : (es : List Entry) → AreLegal (thread_step look) one es → feet (thread_step look) one es ≡ [] → StopAlike one two es
  unfolding machine_step entry_fault
  same_stop [] legal none = (tt, refl, record { state = refl; prints = same; completed = refl; verdict = refl })
  same_stop (e ∷ es) legal none =
      let r = stopped_alike es (bare (thread_step look) s e.thread e.picks) legal.1 none in
      ((legal.0, r.0), r.1, r.2)

-- ---- no race is reported

module _ (look : Look) (s : State Own) (v : Verdict) (completed : ℕ) (out : List Printed) (last : Option Footprint) (calm : v ≡ verdict.Undefined DataRace → ⊥) where
  abbrev stand : Config Own
  stand = config s out last completed v

  abbrev IsNever : Config Own → List Entry → Type 0
  IsNever c es = (after (thread_step look) c es).verdict ≡ verdict.Undefined DataRace → ⊥

  stopped_calm : (e : Entry) (es : List Entry) (b : Bare Own) → bare (thread_step look) s e.thread e.picks ≡ b → AreLegal (thread_step look) (after_bare (thread_step look) stand b) es → foot_of_bare (thread_step look) b ++ feet (thread_step look) (after_bare (thread_step look) stand b) es ≡ [] → IsNever (after_bare (thread_step look) stand b) es
  stopped_calm e es (Completed n t) is legal none = absurd (let l = ap length none in omega (arith, l))
  stopped_calm e es (Stops w about) is legal none =
      subst (IsNever (after_bare (thread_step look) stand (Stops w about))) (sym (none_legal (thread_step look) (after_bare (thread_step look) stand (Stops w about)) es refl legal))
      (λ h. never_raced_itself look s e.thread e.picks about (is ∙ ap (λ v. Stops v about) h))
  stopped_calm e es IllFormedStep is legal none =
      subst (IsNever (after_bare (thread_step look) stand IllFormedStep)) (sym (none_legal (thread_step look) (after_bare (thread_step look) stand IllFormedStep) es refl legal)) calm

  -- by a step that itself stops neither
  pub calm_stop : (es : List Entry) → AreLegal (thread_step look) stand es → feet (thread_step look) stand es ≡ [] → IsNever stand es
  unfolding machine_step entry_fault
  calm_stop [] legal none = calm
  calm_stop (e ∷ es) legal none = stopped_calm e es (bare (thread_step look) s e.thread e.picks) refl legal.1 none
