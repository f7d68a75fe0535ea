-- Neighbours in a run are exchanged, wherever they stand.
use Rattle.mr_exchange.proofs.Common.{◌≡◌, ◌≢◌, ℕ, suc, refl, sym, ◌∙◌, ap, subst, arith, List, [], ◌∷◌, ◌++◌, length, false, None, Footprint, depends, wakes, AreIndependent, Entry, WellFormed, foot_in, IsLook, Look, SoundState, Own, thread_step, IsSane, SwapLaw}
use Rattle.mr_exchange.specs.PlanLegal.{state_fault}
use Rattle.mr_exchange.specs.PlanMachine.{Completed, State, bare}
use Rattle.mr_exchange.specs.PlanNotes.{Notes}
use Rattle.mr_start.proofs.BareKept.{SoundBare, bare_sound}
use Rattle.mr_exchange.specs.Exchange.{Done, Leads, done}

-- what a step shows that noted this, and has this footprint
abbrev shown : Notes → Footprint → Done
shown n f = record { foot = f; printed = n.printed }

-- a completed step notes the thread that took it
abbrev pub NotesThread : Look → Type 0
NotesThread look = (s t : State Own) (thread : ℕ) (picks : List ℕ) (n : Notes) → bare (thread_step look) s thread picks ≡ Completed n t → n.tally.thread ≡ thread

module _ (look : Look) (is : IsLook look) (well : WellFormed look.program) (law : SwapLaw (thread_step look)) (noted : NotesThread look) (sane : (s : State Own) → SoundState look.program s → IsSane s) where
  -- what is sound stays so
  pub sound_then : (s t : State Own) (thread : ℕ) (picks : List ℕ) (n : Notes) → SoundState look.program s → state_fault (thread_step look) s thread picks ≡ None → bare (thread_step look) s thread picks ≡ Completed n t → SoundState look.program t
  sound_then s t thread picks n sound legal e = subst (SoundBare look.program) e (bare_sound look is well s sound thread picks legal)

  neighbours : (s t : State Own) (e f : Entry) (a b : Done) → SoundState look.program s → AreIndependent a.foot b.foot
      → Leads look s (e ∷ f ∷ []) (a ∷ b ∷ []) t → Leads look s (f ∷ e ∷ []) (b ∷ a ∷ []) t
  neighbours s t e f a b sound free (n, u, first_legal, first, first_done, (m, v, second_legal, second, second_done, same)) =
      let own : a.foot.thread ≡ e.thread = ap (λ (d : Done). d.foot.thread) first_done ∙ noted s u e.thread e.picks n first in
      let other : b.foot.thread ≡ f.thread = ap (λ (d : Done). d.foot.thread) second_done ∙ noted u v f.thread f.picks m second in
      let apart : e.thread ≢ f.thread = λ k. free.apart (own ∙ k ∙ sym other) in
      let asleep : wakes (foot_in (thread_step look) n u) f.thread ≡ false = (λ i. wakes (sym first_done i).foot (sym other i)) ∙ free.asleep in
      let unmet : depends (foot_in (thread_step look) n u) (foot_in (thread_step look) m v) ≡ false = (λ i. depends (sym first_done i).foot (sym second_done i).foot) ∙ free.free in
      let x = law s u v e.thread f.thread e.picks f.picks n m (sane s sound) apart first_legal first second_legal second asleep unmet in
      (m, x.between, x.second_legal, x.second_first, second_done ∙ ap (shown m) (sym x.second_foot), (n, v, x.first_legal, x.first_second, first_done ∙ ap (shown n) (sym x.first_foot), same))

  -- IN A RUN, behind any entries
  pub neighbours_in_run : (s t : State Own) (front : List Entry) (e f : Entry) (before : List Done) (a b : Done) → SoundState look.program s
      → length front ≡ length before → AreIndependent a.foot b.foot
      → Leads look s (front ++ e ∷ f ∷ []) (before ++ a ∷ b ∷ []) t → Leads look s (front ++ f ∷ e ∷ []) (before ++ b ∷ a ∷ []) t
  neighbours_in_run s t [] e f [] a b sound same free h = neighbours s t e f a b sound free h
  neighbours_in_run s t [] e f (d ∷ before) a b sound same free h = absurd (omega (arith, same))
  neighbours_in_run s t (x ∷ front) e f [] a b sound same free h = absurd (omega (arith, same))
  neighbours_in_run s t (x ∷ front) e f (d ∷ before) a b sound same free (n, u, legal, completes, is, rest) =
      (n, u, legal, completes, is, neighbours_in_run u t front e f before a b (sound_then s u x.thread x.picks n sound legal completes) (omega (arith, same)) free rest)
