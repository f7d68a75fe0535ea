-- What a start keeps.
use Rattle.mr_step.proofs.Common.{◌≡◌, ℕ, sym, ap, ◌∙◌, subst, List, length, None, Program, AreWithin, Config, Look, Own, IsSound}
use Rattle.mr_typing.specs.Walk.{WellFormed}
use Rattle.mr_turn.specs.Began.{Start}
use Rattle.mr_exchange.specs.StartBegin.{IsStart}
use Rattle.mr_exchange.specs.StartStart.{start_fault}
use Rattle.mr_exchange.proofs.StartStartLimits.{start_within}
use Rattle.mr_exchange.proofs.StartStartSound.{start_look, start_sound}
use Rattle.mr_step.specs.First.{first_config}

module _ (p : Program) (well : WellFormed p) (picks : List ℕ) (legal : start_fault p picks ≡ None) (s : Start) (h : IsStart p picks s) where
  -- there is a pointer for each function and global
  pub functions_are : length s.functions.items ≡ length p.functions
  functions_are = ap (λ (l : Look). length l.functions) h.look ∙ (start_look p well picks legal).functions ∙ ap (λ (l : Look). length l.program.functions) (sym h.look)

  pub globals_are : length s.globals.items ≡ length p.globals
  globals_are = ap (λ (l : Look). length l.globals) h.look ∙ (start_look p well picks legal).globals ∙ ap (λ (l : Look). length l.program.globals) (sym h.look)

  -- and the state keeps what states keep
  pub first_sound : (c : Config Own) → c ≡ first_config s.memory s.stack s.count → IsSound p c
  first_sound c e = subst (IsSound p) (sym (e ∙ h.config)) (start_sound p well picks legal)

  -- within the limits
  pub first_within : (c : Config Own) → c ≡ first_config s.memory s.stack s.count → AreWithin c
  first_within c e = subst (λ (x : Config Own). AreWithin x) (sym (e ∙ h.config)) (start_within p picks legal)
