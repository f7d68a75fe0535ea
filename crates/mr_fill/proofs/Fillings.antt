-- The whole order: its start line, and the run in which its turns are taken.
use Rattle.mr_fill.proofs.Common.{◌≡◌, ℕ, ◌+◌, ◌<◌, ◌≤◌, ◌^◌, sym, ap, ◌∙◌, subst, arith, List, [], length, Option, Some, None, Program, Entry, WellFormed, Legal, Standing, Picked, start_picked, AreOf, FilledAfter, Filling, filled, filled_from, filling, Halt, Turn}
use Rattle.mr_start.specs.Start.{look_of, start_config}
use Rattle.mr_step.specs.Answers.{standing}
use Rattle.mr_fill.specs.declared.filling.Filled.{Filled}
use Rattle.mr_fill.proofs.FilledLaws.{filled_legal, filled_of}

abbrev pub schedule_with : List ℕ → List Entry → Option Halt → Filled
schedule_with start entries halt = record { schedule = record { start = start; entries = entries }; halt = halt }

module _ (p : Program) (order : List Turn) (r : Picked) (e : start_picked p 0 ≡ Some r) where
  pub few_completed : length order ≤ 2 ^ 20 → (standing p r.picks).config.completed + length order < 2 ^ 32
  unfolding start_config
  few_completed few = omega arith

  module _ (new : Standing) (es : List Entry) (halt : Option Halt) (h : FilledAfter order (standing p r.picks) r.chooser new [] es halt) where
    -- what was filled is what is defined
    pub filled_is : schedule_with r.picks es halt ≡ filled p order
    unfolding filled
    filled_is =
        ap (λ l. schedule_with r.picks l halt) h.entries
        ∙ ap (schedule_with r.picks (filling (look_of p r.picks) (start_config p r.picks) r.chooser order).entries) h.ends
        ∙ sym (ap (filled_from p order) e)

    pub legal_is : WellFormed p → Legal p (schedule_with r.picks es halt).schedule
    legal_is well = subst (λ (f : Filled). Legal p f.schedule) (sym filled_is) (filled_legal p order well)

    pub of_is : WellFormed p → AreOf order (schedule_with r.picks es halt).schedule.entries (schedule_with r.picks es halt).halt
    of_is well = subst (λ (f : Filled). AreOf order f.schedule.entries f.halt) (sym filled_is) (filled_of p order well)
