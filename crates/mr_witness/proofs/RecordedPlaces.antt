-- The completed steps of legal entries, as moves.
use Rattle.mr_witness.proofs.Common.{◌≡◌, ℕ, suc, zero, ◌+◌, ◌<◌, ◌≤◌, refl, ◌∙◌, ap, subst, arith, List, [], ◌∷◌, ◌++◌, map, length, Option, None, add-zero, range_with_len, slice_index_or, Verdict, Footprint, no_step, step_at, Runs, Entry, WellFormed, state_fault, Bare, Completed, IllFormedStep, State, Stops, bare, AreLegal, Printed, after_bare, feet, foot_of_bare, machine_step, printed_by, IsLook, Look, SoundState, Own, thread_step, IsSane, SwapLaw, NotesThread, sound_then, entry_at}
use Rattle.mr_witness.proofs.Recorded.{config, legal_here, none_feet}
use Rattle.mr_witness.proofs.OrderMoves.{Goes, Place, machine}

module _ (look : Look) (is : IsLook look) (well : WellFormed look.program) (es : List Entry) (run : List Footprint) (law : SwapLaw (thread_step look)) (noted : NotesThread look) (sane : (s : State Own) → SoundState look.program s → IsSane s) where
  abbrev Moves : Place look.program → List ℕ → Place look.program → Type 0
  Moves a ks b = Runs (machine look is well es run law noted sane) a ks b

  -- what is to be shown of the rest of the entries, from place k on, and n of its steps
  abbrev Later : ℕ → List Entry → ℕ → Type 0
  Later k rest n =
      (s : State Own) (sound : SoundState look.program s) (output : List Printed) (last : Option Footprint) (completed : ℕ) (v : Verdict)
      → AreLegal (thread_step look) (config s output last completed v) rest
      → ((m : ℕ) → m < length (feet (thread_step look) (config s output last completed v) rest) → slice_index_or (feet (thread_step look) (config s output last completed v) rest) m no_step ≡ step_at run (k + m))
      → n ≤ length (feet (thread_step look) (config s output last completed v) rest)
      → (b : Place look.program) × Moves (record { state = s; sound = sound; output = output }) (range_with_len k n) b

  -- the first of them
  recorded_step : (s : State Own) (sound : SoundState look.program s) (output : List Printed) (last : Option Footprint) (completed : ℕ) (v : Verdict) (k : ℕ) (e : Entry) (rest : List Entry) (n : ℕ)
      → e ≡ entry_at es k → state_fault (thread_step look) s e.thread e.picks ≡ None → Later (k + 1) rest n
      → (b : Bare Own) → bare (thread_step look) s e.thread e.picks ≡ b
      → AreLegal (thread_step look) (after_bare (thread_step look) (config s output last completed v) b) rest
      → ((m : ℕ) → m < length (foot_of_bare (thread_step look) b ++ feet (thread_step look) (after_bare (thread_step look) (config s output last completed v) b) rest) → slice_index_or (foot_of_bare (thread_step look) b ++ feet (thread_step look) (after_bare (thread_step look) (config s output last completed v) b) rest) m no_step ≡ step_at run (k + m))
      → suc n ≤ length (foot_of_bare (thread_step look) b ++ feet (thread_step look) (after_bare (thread_step look) (config s output last completed v) b) rest)
      → (t : Place look.program) × Moves (record { state = s; sound = sound; output = output }) (range_with_len k (suc n)) t
  recorded_step s sound output last completed v k e rest n here lawful later (Completed nt s') is_bare legal steps le =
      let sound' = sound_then look is well law noted sane s s' e.thread e.picks nt sound lawful is_bare in
      let behind = later s' sound' _ _ _ _ legal (λ m lt. let f : k + suc m ≡ (k + 1) + m = omega arith in steps (suc m) (omega arith) ∙ ap (step_at run) f) (omega arith) in
      let goes : Goes look es run (record { state = s; sound = sound; output = output }) k (record { state = s'; sound = sound'; output = output ++ map (printed_by nt.tally.thread) nt.printed }) = record {
        takes = record {
          notes = nt;
          legal = subst (λ (x : Entry). state_fault (thread_step look) s x.thread x.picks ≡ None) here lawful;
          completes = subst (λ (x : Entry). bare (thread_step look) s x.thread x.picks ≡ Completed nt s') here is_bare;
          foot = steps 0 (omega arith) ∙ ap (step_at run) (add-zero k);
        };
        output = refl;
      } in
      (behind.0, (record { state = s'; sound = sound'; output = output ++ map (printed_by nt.tally.thread) nt.printed }, goes, behind.1))
  recorded_step s sound output last completed v k e rest n here lawful later (Stops w about) is_bare legal steps le =
      absurd (let none = none_feet (thread_step look) (after_bare (thread_step look) (config s output last completed v) (Stops w about)) rest refl legal in let l = ap length none in omega (arith, l))
  recorded_step s sound output last completed v k e rest n here lawful later IllFormedStep is_bare legal steps le =
      absurd (let none = none_feet (thread_step look) (after_bare (thread_step look) (config s output last completed v) IllFormedStep) rest refl legal in let l = ap length none in omega (arith, l))

  -- THE FIRST STEPS FROM PLACE k ON are taken, where the rest of the entries is legal, and where its footprints are the run's
  pub recorded : (k : ℕ) (rest : List Entry) → ((m : ℕ) → m < length rest → entry_at rest m ≡ entry_at es (k + m)) → (n : ℕ) → Later k rest n
  unfolding machine_step
  recorded k rest entries zero s sound output last completed v legal steps le =
      (record { state = s; sound = sound; output = output }, record { state = refl; prints = λ t. refl })
  recorded k [] entries (suc n) s sound output last completed v legal steps le = absurd (omega arith)
  recorded k (e ∷ rest) entries (suc n) s sound output last completed v legal steps le =
      let here : e ≡ entry_at es k = entries 0 (omega arith) ∙ ap (entry_at es) (add-zero k) in
      let lawful = legal_here (thread_step look) s output last completed v e legal.0 in
      recorded_step s sound output last completed v k e rest n here lawful
      (recorded (k + 1) rest (λ m lt. let f : k + suc m ≡ (k + 1) + m = omega arith in entries (suc m) (omega arith) ∙ ap (entry_at es) f) n)
      (bare (thread_step look) s e.thread e.picks) refl legal.1 steps le
