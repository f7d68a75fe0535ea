-- The recorded run of legal entries, as moves.
use Rattle.mr_witness.proofs.Common.{◌≡◌, ℕ, suc, zero, ◌+◌, ◌<◌, ◌≤◌, refl, ◌∙◌, ap, subst, arith, List, [], ◌∷◌, ◌++◌, length, Bool, true, false, Option, Some, None, add-zero, range_with_len, slice_index_or, if◌then◌else◌, Verdict, Footprint, no_step, step_at, Runs, Entry, WellFormed, state_fault, Bare, Completed, IllFormedStep, Language, State, Stops, bare, AreLegal, Config, Printed, after_bare, entry_fault, feet, foot_of_bare, machine_step, IsLook, Look, SoundState, Own, thread_step, IsSane, SwapLaw, NotesThread, sound_then, entry_at}
use Rattle.mr_witness.specs.PlanLegal.{fault}
use Rattle.mr_witness.specs.PlanRuns.{fault_in, is_running}
use Rattle.mr_witness.proofs.Moves.{Kept, Takes, machine}
use Rattle.mr_sched.specs.declared.rule.ScheduleRule.TheVariants as rule

-- a machine that has a state
abbrev pub config : {L : Type 0} → State L → List Printed → Option Footprint → ℕ → Verdict → Config L
config s output last completed v = record { state = Some s; output = output; last = last; completed = completed; verdict = v; about = None }

-- an entry that breaks no rule finds a running machine, and breaks none of its state's
pub legal_here : {L : Type 0} (step : Language L) (s : State L) (output : List Printed) (last : Option Footprint) (completed : ℕ) (v : Verdict) (e : Entry) → entry_fault step (config s output last completed v) e ≡ None → state_fault step s e.thread e.picks ≡ None
unfolding entry_fault
legal_here step s output last completed v e h = by_running (is_running v) h
  where
    by_running : (b : Bool) → (if b then fault_in step e.thread e.picks (Some s) else fault rule.AfterStop) ≡ None → state_fault step s e.thread e.picks ≡ None
    by_running true k = k
    by_running false k = absurd (cc)

-- where there is no state, no entry is legal
pub none_legal : {L : Type 0} (step : Language L) (c : Config L) (es : List Entry) → c.state ≡ None → AreLegal step c es → es ≡ []
unfolding entry_fault
none_legal step c [] e h = refl
none_legal step c (x ∷ es) e h = absurd (by_running (is_running c.verdict) (subst (λ o. (if is_running c.verdict then fault_in step x.thread x.picks o else fault rule.AfterStop) ≡ None) e h.0))
  where
    by_running : (b : Bool) → (if b then fault rule.AfterStop else fault rule.AfterStop) ≡ None → ⊥
    by_running true k = cc
    by_running false k = cc

pub none_feet : {L : Type 0} (step : Language L) (c : Config L) (es : List Entry) → c.state ≡ None → AreLegal step c es → feet step c es ≡ []
none_feet step c es e h = (λ i. feet step c (none_legal step c es e h i))

module _ (look : Look) (is : IsLook look) (well : WellFormed look.program) (es : List Entry) (run : List Footprint) (law : SwapLaw (thread_step look)) (noted : NotesThread look) (sane : (s : State Own) → SoundState look.program s → IsSane s) where
  abbrev Moves : Kept look is well es run law noted sane → List ℕ → Kept look is well es run law noted sane → Type 0
  Moves a ks b = Runs (machine look is well es run law noted sane) a ks b

  -- what is to be shown of the rest of the entries, from place k on, and n of its steps
  abbrev Later : ℕ → List Entry → ℕ → Type 0
  Later k rest n =
      (s : State Own) (sound : SoundState look.program s) (output : List Printed) (last : Option Footprint) (completed : ℕ) (v : Verdict)
      → AreLegal (thread_step look) (config s output last completed v) rest
      → ((m : ℕ) → m < length (feet (thread_step look) (config s output last completed v) rest) → slice_index_or (feet (thread_step look) (config s output last completed v) rest) m no_step ≡ step_at run (k + m))
      → n ≤ length (feet (thread_step look) (config s output last completed v) rest)
      → (t : Kept look is well es run law noted sane) × Moves (s, sound) (range_with_len k n) t

  -- the first of them
  recorded_step : (s : State Own) (sound : SoundState look.program s) (output : List Printed) (last : Option Footprint) (completed : ℕ) (v : Verdict) (k : ℕ) (e : Entry) (rest : List Entry) (n : ℕ)
      → e ≡ entry_at es k → state_fault (thread_step look) s e.thread e.picks ≡ None → Later (k + 1) rest n
      → (b : Bare Own) → bare (thread_step look) s e.thread e.picks ≡ b
      → AreLegal (thread_step look) (after_bare (thread_step look) (config s output last completed v) b) rest
      → ((m : ℕ) → m < length (foot_of_bare (thread_step look) b ++ feet (thread_step look) (after_bare (thread_step look) (config s output last completed v) b) rest) → slice_index_or (foot_of_bare (thread_step look) b ++ feet (thread_step look) (after_bare (thread_step look) (config s output last completed v) b) rest) m no_step ≡ step_at run (k + m))
      → suc n ≤ length (foot_of_bare (thread_step look) b ++ feet (thread_step look) (after_bare (thread_step look) (config s output last completed v) b) rest)
      → (t : Kept look is well es run law noted sane) × Moves (s, sound) (range_with_len k (suc n)) t
  recorded_step s sound output last completed v k e rest n here lawful later (Completed nt s') is_bare legal steps le =
      let sound' = sound_then look is well law noted sane s s' e.thread e.picks nt sound lawful is_bare in
      let behind = later s' sound' _ _ _ _ legal (λ m lt. let f : k + suc m ≡ (k + 1) + m = omega arith in steps (suc m) (omega arith) ∙ ap (step_at run) f) (omega arith) in
      let taken : Takes look es run s k s' = record {
        notes = nt;
        legal = subst (λ (x : Entry). state_fault (thread_step look) s x.thread x.picks ≡ None) here lawful;
        completes = subst (λ (x : Entry). bare (thread_step look) s x.thread x.picks ≡ Completed nt s') here is_bare;
        foot = steps 0 (omega arith) ∙ ap (step_at run) (add-zero k);
      } in
      (behind.0, ((s', sound'), taken, behind.1))
  recorded_step s sound output last completed v k e rest n here lawful later (Stops w about) is_bare legal steps le =
      absurd (let none = none_feet (thread_step look) (after_bare (thread_step look) (config s output last completed v) (Stops w about)) rest refl legal in let l = ap length none in omega (arith, l))
  recorded_step s sound output last completed v k e rest n here lawful later IllFormedStep is_bare legal steps le =
      absurd (let none = none_feet (thread_step look) (after_bare (thread_step look) (config s output last completed v) IllFormedStep) rest refl legal in let l = ap length none in omega (arith, l))

  -- THE FIRST STEPS FROM PLACE k ON are taken, where the rest of the entries is legal, and where its footprints are the run's
  pub recorded : (k : ℕ) (rest : List Entry) → ((m : ℕ) → m < length rest → entry_at rest m ≡ entry_at es (k + m)) → (n : ℕ) → Later k rest n
  unfolding machine_step
  recorded k rest entries zero s sound output last completed v legal steps le = ((s, sound), refl)
  recorded k [] entries (suc n) s sound output last completed v legal steps le = absurd (omega arith)
  recorded k (e ∷ rest) entries (suc n) s sound output last completed v legal steps le =
      let here : e ≡ entry_at es k = entries 0 (omega arith) ∙ ap (entry_at es) (add-zero k) in
      let lawful = legal_here (thread_step look) s output last completed v e legal.0 in
      recorded_step s sound output last completed v k e rest n here lawful
      (recorded (k + 1) rest (λ m lt. let f : k + suc m ≡ (k + 1) + m = omega arith in entries (suc m) (omega arith) ∙ ap (entry_at es) f) n)
      (bare (thread_step look) s e.thread e.picks) refl legal.1 steps le
