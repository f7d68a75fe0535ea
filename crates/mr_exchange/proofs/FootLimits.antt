-- The footprints of a program's runs keep the machine's limits.
use Rattle.mr_exchange.proofs.Common.{◌≡◌, ℕ, refl, sym, subst, List, [], ◌∷◌, All, Option, Some, None, All-append, All-cons, All-nil, same_Some, Program, IsFootOk, Entry, WellFormed, Bare, IllFormedStep, Stops, AreLegal, Config, after_bare, entry_fault, feet, foot_from, foot_in, foot_of_bare, machine_step, stepped_from, IsLook, Look, IsSoundConfig, SoundState, Own, thread_step, look_of, start_config, start_look, start_sound}
use Rattle.mr_sched.specs.declared.schedule.Schedule.{Schedule}
use Rattle.mr_exchange.specs.PlanLegal.{state_fault}
use Rattle.mr_exchange.specs.PlanLimits.{AreWithin, IsWithin}
use Rattle.mr_exchange.specs.PlanMachine.{Completed, State, bare}
use Rattle.mr_start.proofs.RunSound.{entry_sound, legal_at}
use Rattle.mr_start.specs.Runs.{Legal, steps_of}
use Rattle.mr_start.proofs.StartLimits.{start_within}
use Rattle.mr_exchange.specs.Limits.{LimitLaw}
use Rattle.mr_exchange.proofs.LimitLaw.{limit_law}
use Rattle.mr_exchange.proofs.Sane.{sound_is_sane}
use Rattle.mr_exchange.proofs.Telling.{thread_step_tells}

-- AT EACH STATE
pub limits_of : (look : Look) → LimitLaw (thread_step look)
limits_of look = limit_law (thread_step look) (thread_step_tells look)

-- what a step comes to
abbrev IsOk : Look → Config Own → Bare Own → Type 0
IsOk look c b = All IsFootOk (foot_of_bare (thread_step look) b) × AreWithin (after_bare (thread_step look) c b)

no_state : {s : State Own} → None ≡ Some s → ⊥
no_state e = cc

module _ (look : Look) (is : IsLook look) (well : WellFormed look.program) where
  state_ok : (c : Config Own) (s : State Own) (t : ℕ) (picks : List ℕ) → SoundState look.program s → IsWithin s → state_fault (thread_step look) s t picks ≡ None → IsOk look c (bare (thread_step look) s t picks)
  state_ok c s t picks sound within legal = by_bare (bare (thread_step look) s t picks) refl
    where
      by_bare : (b : Bare Own) → bare (thread_step look) s t picks ≡ b → IsOk look c b
      by_bare (Completed n s') e =
          let l = limits_of look s s' t picks n (sound_is_sane look.program s sound) within legal e in
          (All-cons IsFootOk (foot_in (thread_step look) n s') [] l.0 (All-nil IsFootOk), λ x k. subst (λ (y : State Own). IsWithin y) (same_Some s' x k) l.1)
      by_bare (Stops v about) e = (All-nil IsFootOk, λ x k. absurd (no_state k))
      by_bare IllFormedStep e = (All-nil IsFootOk, λ x k. absurd (no_state k))

  -- a legal entry
  pub entry_ok : (c : Config Own) (e : Entry) → IsSoundConfig look.program c → AreWithin c → entry_fault (thread_step look) c e ≡ None
      → All IsFootOk (foot_from (thread_step look) e.thread e.picks c.state) × AreWithin (machine_step (thread_step look) c e)
  unfolding machine_step
  entry_ok c e sound within legal =
      let at = legal_at look c e legal in
      subst (λ (o : Option (State Own)). All IsFootOk (foot_from (thread_step look) e.thread e.picks o) × AreWithin (stepped_from (thread_step look) c e.thread e.picks o)) (sym at.is)
      (state_ok c at.state e.thread e.picks (sound at.state at.is) (within at.state at.is) at.legal)

  -- and legal entries
  feet_ok : (c : Config Own) (es : List Entry) → IsSoundConfig look.program c → AreWithin c → AreLegal (thread_step look) c es → All IsFootOk (feet (thread_step look) c es)
  feet_ok c [] sound within legal = All-nil IsFootOk
  feet_ok c (e ∷ es) sound within legal =
      let k = entry_ok c e sound within legal.0 in
      All-append IsFootOk (foot_from (thread_step look) e.thread e.picks c.state) (feet (thread_step look) (machine_step (thread_step look) c e) es) k.0
      (feet_ok (machine_step (thread_step look) c e) es (entry_sound look is well c e sound legal.0).1 k.1 legal.1)

-- IN EACH LEGAL RUN
pub run_ok : (p : Program) (w : Schedule) → WellFormed p → Legal p w → All IsFootOk (steps_of p w)
unfolding look_of steps_of
run_ok p w well legal =
    feet_ok (look_of p w.start) (start_look p well w.start legal.start) well (start_config p w.start) w.entries (start_sound p well w.start legal.start) (start_within p w.start legal.start) legal.entries
