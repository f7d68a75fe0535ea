-- A choice of recorded steps, taken alone, brings the machine to the first pair side by side.
use Rattle.mr_witness.proofs.Common.{◌≡◌, ℕ, suc, ◌+◌, ◌-◌, ◌<◌, ◌≤◌, refl, sym, ◌∙◌, ap, subst, arith, List, [], ◌∷◌, ◌++◌, map, length, Bool, Option, Some, None, append_assoc, zero-add, append-nil, ◌==◌, filter, range_with_len, filter-append, DataRace, Footprint, selected, places, step_at, thread_at, IsFirstPair, Runs, Each, Each-weaker, filter-agree, range_with_len-parts, Entry, WellFormed, Bare, Completed, State, bare, AreLegal, Config, Printed, after, entry_fault, feet, foot_of_bare, machine_step, IsLook, Look, SoundState, Own, thread_step, IsSane, SwapLaw, NotesThread, entry_at}
use Rattle.mr_exchange.specs.Shown.{IsShown, steps_of}
use Rattle.mr_exchange.specs.Trace.{Selects}
use Rattle.mr_exchange.proofs.Witness.{selected_is_shown}
use Rattle.mr_exchange.specs.Witness.{IsPrefix, entries_of}
use Rattle.mr_base.specs.declared.reason.Verdict.TheVariants as verdict
use Rattle.mr_witness.proofs.Lists.{after_append, feet_append, feet_length, filter_map, legal_append, map_append, map_places}
use Rattle.mr_witness.proofs.Moves.{Kept, Takes, machine, runs_threads}
use Rattle.mr_witness.proofs.Recorded.{config, recorded}
use Rattle.mr_witness.proofs.Replayed.{calm_from, last_of, last_push, last_reported, replayed}

-- what is shown of entries at these places, which end with those of i and j
pub record ShowsRace (look : Look) (es : List Entry) (c : Config Own) (i j : ℕ) (ks : List ℕ) : Type 0 where
  pub front : List ℕ
  pub ends : ks ≡ front ++ i ∷ j ∷ []
  pub legal : AreLegal (thread_step look) c (map (entry_at es) ks)
  pub prefix : (t : ℕ) → IsPrefix (entries_of t (map (entry_at es) ks)) (entries_of t es)
  pub steps : feet (thread_step look) c (map (entry_at es) ks) ≡ map (step_at (feet (thread_step look) c es)) ks
  pub running : (after (thread_step look) c (map (entry_at es) (front ++ i ∷ []))).verdict ≡ verdict.Running
  pub race : (after (thread_step look) c (map (entry_at es) ks)).verdict ≡ verdict.Undefined DataRace

-- the entries of a thread at places whose steps are of their threads
thread_entries : (es : List Entry) (run : List Footprint) (t : ℕ) (ks : List ℕ) → Each (λ k. (entry_at es k).thread ≡ thread_at run k) ks → entries_of t (map (entry_at es) ks) ≡ map (entry_at es) (steps_of run t ks)
thread_entries es run t ks h =
    filter_map (entry_at es) (λ (e : Entry). e.thread == t) ks
    ∙ ap (map (entry_at es)) (filter-agree (λ k. (entry_at es k).thread == t) (λ k. thread_at run k == t) ks (Each-weaker _ _ (λ k e. ap (λ n. n == t) e) ks h))

module _ (look : Look) (is : IsLook look) (well : WellFormed look.program) (es : List Entry) (law : SwapLaw (thread_step look)) (noted : NotesThread look) (sane : (s : State Own) → SoundState look.program s → IsSane s) (s : State Own) (sound : SoundState look.program s) (legal : AreLegal (thread_step look) (config s [] None 0 verdict.Running) es) where
  abbrev start : Config Own
  start = config s [] None 0 verdict.Running

  abbrev run : List Footprint
  run = feet (thread_step look) start es

  abbrev Moves : List ℕ → Kept look is well es run law noted sane → Type 0
  Moves ks b = Runs (machine look is well es run law noted sane) (s, sound) ks b

  -- the first steps, as recorded
  recorded_first : (n : ℕ) → n ≤ length run → (t : Kept look is well es run law noted sane) × Moves (places n) t
  recorded_first n le =
      recorded look is well es run law noted sane 0 es (λ m lt. ap (entry_at es) (sym (zero-add m))) n s sound [] None 0 verdict.Running legal
      (λ m lt. ap (step_at run) (sym (zero-add m))) le

  -- the entries of a thread in a part of the run
  prefix_of : (t : ℕ) (ks : List ℕ) (b : Kept look is well es run law noted sane) → Moves ks b → (rest : List ℕ) → steps_of run t ks ++ rest ≡ steps_of run t (places (length run)) → IsPrefix (entries_of t (map (entry_at es) ks)) (entries_of t es)
  prefix_of t ks b moves rest e =
      let whole = recorded_first (length run) (omega arith) in
      let many : ℕ = length es - length run in
      let count : length es ≡ length run + many = (let le = feet_length (thread_step look) start es in omega (arith, le)) in
      let later : List Entry = map (entry_at es) (range_with_len (0 + length run) many) in
      let parts : map (entry_at es) (places (length run)) ++ later ≡ es =
      sym (map_append (entry_at es) (places (length run)) (range_with_len (0 + length run) many))
      ∙ ap (map (entry_at es)) (sym (range_with_len-parts 0 (length run) many) ∙ ap (range_with_len 0) (sym count))
      ∙ map_places es _ in
      let here = thread_entries es run t ks (runs_threads look is well es run law noted sane (s, sound) b ks moves) in
      let all = thread_entries es run t (places (length run)) (runs_threads look is well es run law noted sane (s, sound) whole.0 (places (length run)) whole.1) in (
        map (entry_at es) rest ++ entries_of t later,
        ap (λ l. l ++ (map (entry_at es) rest ++ entries_of t later)) here
            ∙ sym (append_assoc (map (entry_at es) (steps_of run t ks)) (map (entry_at es) rest) (entries_of t later))
            ∙ ap (λ l. l ++ entries_of t later) (sym (map_append (entry_at es) (steps_of run t ks) rest) ∙ ap (map (entry_at es)) e ∙ sym all)
            ∙ sym (filter-append (λ (e : Entry). e.thread == t) (map (entry_at es) (places (length run))) later)
            ∙ ap (entries_of t) parts,
      )

  -- A CHOICE OF STEPS SHOWS THE FIRST PAIR
  pub choice_shows : (i j : ℕ) (keep : ℕ → Bool) → IsFirstPair run i j → Selects run i j keep → ShowsRace look es start i j (selected keep i j)
  unfolding entry_fault machine_step
  choice_shows i j keep first selects =
      let step = thread_step look in
      let entry = entry_at es in
      let m = machine look is well es run law noted sane in
      let rec = recorded_first (suc j) (let lt = first.within in omega (arith, lt)) in
      let shown = selected_is_shown run i j keep first selects m (s, sound) rec.0 rec.1 in
      let ks : List ℕ = selected keep i j in
      let xs : List ℕ = shown.front ++ i ∷ [] in
      let split : ks ≡ xs ++ j ∷ [] = shown.ends ∙ sym (append_assoc shown.front (i ∷ []) (j ∷ [])) in
      let moves : Moves (xs ++ j ∷ []) shown.goal_state = subst (λ l. Moves l shown.goal_state) split shown.runs in
      let rp = replayed look is well es run law noted sane xs j (s, sound) shown.goal_state [] None 0 (calm_from run xs shown.calm) moves in
      let there : Config Own = config rp.state rp.output (Some (step_at run i)) rp.completed verdict.Running in
      let at : after step start (map entry xs) ≡ there = rp.is ∙ (λ k. config rp.state rp.output (last_push run None shown.front i k) rp.completed verdict.Running) in
      let all : map entry ks ≡ map entry xs ++ entry j ∷ [] = ap (map entry) split ∙ map_append entry xs (j ∷ []) in
      let told : feet step there (entry j ∷ []) ≡ step_at run j ∷ [] =
      ap (λ b. foot_of_bare step b ++ []) rp.takes.completes ∙ ap (λ (f : Footprint). f ∷ []) rp.takes.foot in
      record {
        front = shown.front;
        ends = shown.ends;
        legal = subst (AreLegal step start) (sym all) (legal_append step start (map entry xs) (entry j ∷ []) rp.legal (subst (λ c. AreLegal step c (entry j ∷ [])) (sym at) (rp.takes.legal, tt)));
        prefix = λ t. let h = shown.prefix t in prefix_of t ks shown.goal_state shown.runs h.0 h.1;
        steps =
            ap (feet step start) all ∙ feet_append step start (map entry xs) (entry j ∷ [])
            ∙ (λ k. rp.steps k ++ feet step (at k) (entry j ∷ []))
            ∙ ap (λ l. map (step_at run) xs ++ l) told
            ∙ sym (ap (map (step_at run)) split ∙ map_append (step_at run) xs (j ∷ []));
        running = ap (λ (c : Config Own). c.verdict) at;
        race =
            ap (λ l. (after step start l).verdict) all
            ∙ ap (λ (c : Config Own). c.verdict) (after_append step start (map entry xs) (entry j ∷ []))
            ∙ ap (λ (c : Config Own). (machine_step step c (entry j)).verdict) at
            ∙ last_reported look is well es run law noted sane rp.state rp.goal_state rp.output i j rp.completed shown.reported rp.takes;
      }
