-- No bare step of a legal run is ill-formed, and each state of it keeps what states keep.
use Rattle.mr_start.proofs.Common.{◌≡◌, ℕ, refl, subst, sym, ap, ◌∙◌, List, [], ◌∷◌, Option, Some, None, Bool, true, false, not, same_Some, if◌then◌else◌, Program, Fault, fault, state_fault, Bare, Completed, IllFormedStep, Language, State, Stops, bare, IsLook, Look, IsSoundConfig, SoundState, Own, thread_step}
use Rattle.mr_sched.specs.declared.schedule.Entry.{Entry}
use Rattle.mr_frame.specs.TypingWalk.{WellFormed}
use Rattle.mr_frame.specs.PlanRuns.{AreLegal, Config, NeverIllFormed, after_bare, entry_fault, fault_in, has_rule, is_ill_formed, is_running, machine_step, stepped_from}
use Rattle.mr_start.proofs.BareKept.{SoundBare, bare_sound}
use Rattle.mr_sched.specs.declared.rule.ScheduleRule.TheVariants as rule

-- a legal entry finds a state, of which it breaks no rule
pub record LegalAt (look : Look) (c : Config Own) (e : Entry) : Type 0 where
  pub state : State Own
  pub is : c.state ≡ Some state
  pub legal : state_fault (thread_step look) state e.thread e.picks ≡ None

pub legal_at : (look : Look) (c : Config Own) (e : Entry) → entry_fault (thread_step look) c e ≡ None → LegalAt look c e
unfolding entry_fault
legal_at look c e h = by_verdict (is_running c.verdict) h
  where
    by_state : (o : Option (State Own)) → c.state ≡ o → fault_in (thread_step look) e.thread e.picks o ≡ None → LegalAt look c e
    by_state None is k = absurd (cc)
    by_state (Some s) is k = record { state = s; is = is; legal = k }

    by_verdict : (b : Bool) → (if b then fault_in (thread_step look) e.thread e.picks c.state else fault rule.AfterStop) ≡ None → LegalAt look c e
    by_verdict true k = by_state c.state refl k
    by_verdict false k = absurd (cc)

rule_there : (p : Program) (b : Bare Own) → SoundBare p b → not (is_ill_formed b) ≡ true
rule_there p (Completed n s) h = refl
rule_there p (Stops v about) h = refl
rule_there p IllFormedStep h = absurd h

sound_behind : (p : Program) (step : Language Own) (c : Config Own) (b : Bare Own) → SoundBare p b → IsSoundConfig p (after_bare step c b)
sound_behind p step c (Completed n s) h = λ x e. subst (SoundState p) (same_Some s x e) h
sound_behind p step c (Stops v about) h = λ x e. absurd (by_none e)
  where
    by_none : {x : State Own} → None ≡ Some x → ⊥
    by_none e = cc
sound_behind p step c IllFormedStep h = absurd h

module _ (look : Look) (is : IsLook look) (well : WellFormed look.program) where
  -- a legal entry, at a machine whose state keeps it all
  pub entry_sound : (c : Config Own) (e : Entry) → IsSoundConfig look.program c → entry_fault (thread_step look) c e ≡ None
      → (has_rule (thread_step look) e.thread e.picks c.state ≡ true) × IsSoundConfig look.program (machine_step (thread_step look) c e)
  unfolding machine_step
  entry_sound c e sound legal =
      let at = legal_at look c e legal in
      let step = bare_sound look is well at.state (sound at.state at.is) e.thread e.picks at.legal in (
        ap (has_rule (thread_step look) e.thread e.picks) at.is ∙ rule_there look.program (bare (thread_step look) at.state e.thread e.picks) step,
        subst (λ (o : Option (State Own)). IsSoundConfig look.program (stepped_from (thread_step look) c e.thread e.picks o)) (sym at.is)
            (sound_behind look.program (thread_step look) c (bare (thread_step look) at.state e.thread e.picks) step),
      )

  -- NO BARE STEP OF A LEGAL RUN IS ILL-FORMED, in a well-formed program
  pub never_ill_formed : (c : Config Own) (es : List Entry) → IsSoundConfig look.program c → AreLegal (thread_step look) c es → NeverIllFormed (thread_step look) c es
  never_ill_formed c [] sound legal = tt
  never_ill_formed c (e ∷ es) sound legal =
      let step = entry_sound c e sound legal.0 in
      (step.0, never_ill_formed (machine_step (thread_step look) c e) es step.1 legal.1)
