-- The machine of a program as moves between the states that a run may come to, of which independent neighbours may be exchanged.
use Rattle.mr_witness.proofs.Common.{◌≡◌, ◌≢◌, ℕ, refl, sym, ◌∙◌, ap, subst, List, [], ◌∷◌, false, None, Program, Footprint, depends, wakes, step_at, thread_at, AreIndependent, Machine, Runs, Each, Entry, WellFormed, state_fault, Completed, Language, State, bare, foot_in, IsLook, Look, SoundState, Own, thread_step, IsSane, SwapLaw, entry_at, NotesThread, sound_then}
use Rattle.mr_witness.specs.PlanNotes.{Notes}

-- The entry of the recorded step k breaks no rule in s, and its step completes with the footprint of that step and leads
-- to t.
pub record Takes (look : Look) (es : List Entry) (run : List Footprint) (s : State Own) (k : ℕ) (t : State Own) : Type 0 where
  pub notes : Notes
  pub legal : state_fault (thread_step look) s (entry_at es k).thread (entry_at es k).picks ≡ None
  pub completes : bare (thread_step look) s (entry_at es k).thread (entry_at es k).picks ≡ Completed notes t
  pub foot : foot_in (thread_step look) notes t ≡ step_at run k

module _ (look : Look) (is : IsLook look) (well : WellFormed look.program) (es : List Entry) (run : List Footprint) (law : SwapLaw (thread_step look)) (noted : NotesThread look) (sane : (s : State Own) → SoundState look.program s → IsSane s) where
  -- a state that keeps what states keep
  abbrev pub Kept : Type 0
  Kept = (s : State Own) × SoundState look.program s

  -- the entry is one of the thread of the step
  pub entry_thread : (s t : State Own) (k : ℕ) → Takes look es run s k t → (entry_at es k).thread ≡ thread_at run k
  entry_thread s t k f =
      sym (noted s t (entry_at es k).thread (entry_at es k).picks f.notes f.completes) ∙ ap (λ (x : Footprint). x.thread) f.foot

  pub exchanged : (a b c : Kept) (i j : ℕ) → AreIndependent (step_at run i) (step_at run j) → Takes look es run a.0 i b.0 → Takes look es run b.0 j c.0
      → (b' : Kept) × (c' : Kept) × Takes look es run a.0 j b'.0 × Takes look es run b'.0 i c'.0 × (c.0 ≡ c'.0)
  exchanged a b c i j free f g =
      let first = entry_thread a.0 b.0 i f in
      let second = entry_thread b.0 c.0 j g in
      let apart : (entry_at es i).thread ≢ (entry_at es j).thread = λ e. free.apart (sym first ∙ e ∙ second) in
      let asleep : wakes (foot_in (thread_step look) f.notes b.0) (entry_at es j).thread ≡ false = (λ k. wakes (f.foot k) (second k)) ∙ free.asleep in
      let unmet : depends (foot_in (thread_step look) f.notes b.0) (foot_in (thread_step look) g.notes c.0) ≡ false = (λ k. depends (f.foot k) (g.foot k)) ∙ free.free in
      let x = law a.0 b.0 c.0 (entry_at es i).thread (entry_at es j).thread (entry_at es i).picks (entry_at es j).picks f.notes g.notes (sane a.0 a.1) apart f.legal f.completes g.legal g.completes asleep unmet in
      let sound = sound_then look is well law noted sane a.0 x.between (entry_at es j).thread (entry_at es j).picks g.notes a.1 x.second_legal x.second_first in (
        (x.between, sound),
        c,
        record { notes = g.notes; legal = x.second_legal; completes = x.second_first; foot = x.second_foot ∙ g.foot },
        record { notes = f.notes; legal = x.first_legal; completes = x.first_second; foot = x.first_foot ∙ f.foot },
        refl,
      )

  -- THE MACHINE, with the entries of a recorded run
  abbrev pub machine : Machine run
  machine = record {
    State = Kept;
    Same = λ a b. a.0 ≡ b.0;
    Step = λ a k b. Takes look es run a.0 k b.0;
    same_refl = λ a. refl;
    same_sym = λ a b e. sym e;
    same_trans = λ a b c e f. e ∙ f;
    carry = λ a b c k e f. (c, subst (λ x. Takes look es run x k c.0) e f, refl);
    swap = exchanged;
  }

  -- where steps are taken, their entries are of their threads
  pub runs_threads : (a b : Kept) (ks : List ℕ) → Runs machine a ks b → Each (λ k. (entry_at es k).thread ≡ thread_at run k) ks
  runs_threads a b [] h = tt
  runs_threads a b (k ∷ ks) h = (entry_thread a.0 h.0.0 k h.1, runs_threads h.0 b ks h.2)
