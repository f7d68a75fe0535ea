-- The whole draw: its start line, and the run that the entries behind it are drawn in.
use Rattle.mr_auto.proofs.Common.{◌≡◌, ℕ, ◌+◌, ◌<◌, ◌≤◌, ◌^◌, refl, sym, ap, ap₂, ◌∙◌, subst, arith, List, [], ◌∷◌, map, Some, None, Program, Enabled, Fault, after, feet, first_chooser, Chooser, Ask, Entry, thread_step, WellFormed, Piece, ask_of, look_of, pieces, start_config, start_fault, Standing, AreAddresses, Picked, drawn_schedule, picked, schedule_from, start_picked, BeginsDrawing, DrawnAfter, drawn_from_here}
use Rattle.mr_sched.specs.declared.schedule.Schedule.{Schedule}
use Rattle.mr_run.specs.Runs.{IsRun}
use Rattle.mr_start.specs.Runs.{Legal, run_of, steps_of}
use Rattle.mr_start.proofs.StartSound.{start_look, start_sound}
use Rattle.mr_run.specs.StepAnswers.{standing}
use Rattle.mr_auto.proofs.LegalRuns.{schedule_legal}
use Rattle.mr_auto.proofs.StartFound.{start_found}
use Rattle.mr_auto.proofs.Starts.{start_legal, start_lies}

abbrev pub with_entries : List ℕ → List Entry → Schedule
with_entries start entries = record { start = start; entries = entries }

abbrev pub picks_of : List ℕ → Chooser → Picked
picks_of picks chooser = record { picks = picks; chooser = chooser }

-- each piece of the start asks for an address
pub are_addresses : (ps : List Piece) → AreAddresses (map ask_of ps)
are_addresses [] = tt
are_addresses (p ∷ ps) = are_addresses ps

module _ (p : Program) (number : ℕ) where
  -- what is picked for them is what the definition picks
  pub start_is : (asks : List Ask) (c : Chooser) → asks ≡ map ask_of (pieces p) → c ≡ first_chooser number → picked (Enabled ∷ []) c asks ≡ start_picked p number
  start_is asks c are first = ap₂ (picked (Enabled ∷ [])) first are

  -- there are picks for a well-formed program
  pub start_there : WellFormed p → start_picked p number ≡ None → ⊥
  start_there well none = let (r, e) = start_found p well number in absurd (cc)

  module _ (r : Picked) (e : start_picked p number ≡ Some r) where
    -- they break no rule
    pub never_refused : (f : Fault) → start_fault p r.picks ≡ Some f → ⊥
    never_refused f bad = let legal = start_legal p number r e in absurd (cc)

    pub begins_drawing : WellFormed p → BeginsDrawing (standing p r.picks) r.chooser
    unfolding look_of start_config
    begins_drawing well =
        let legal = start_legal p number r e in
        record {
          working = refl;
          state = λ running. (_, refl);
          look = start_look p well r.picks legal;
          well = well;
          sound = start_sound p well r.picks legal;
          lies = start_lies p number r e;
        }

    pub completed_none : (most : ℕ) → most ≤ 2 ^ 20 → (standing p r.picks).config.completed + most < 2 ^ 32
    unfolding start_config
    completed_none most few = omega arith

    module _ (most : ℕ) (new : Standing) (es : List Entry) (h : DrawnAfter most (standing p r.picks) r.chooser new [] es) where
      -- the entries behind the start line are those of the definition
      pub drawn_is : with_entries r.picks es ≡ drawn_schedule p number most
      unfolding drawn_schedule
      drawn_is = ap (with_entries r.picks) h.entries ∙ sym (ap (schedule_from p most) e)

      -- the machine is where the run under them ends
      pub drawn_run : WellFormed p → IsRun p (with_entries r.picks es) new
      unfolding run_of
      drawn_run well = record {
        legal = subst (λ (w : Schedule). Legal p w) (sym drawn_is) (schedule_legal p number most well);
        working = h.working;
        look = h.look;
        config = h.config ∙ ap (after (thread_step (look_of p r.picks)) (start_config p r.picks)) (sym h.entries);
      }

      -- and their steps are those of the run
      pub drawn_steps : feet (thread_step (look_of p r.picks)) (start_config p r.picks) (drawn_from_here most (standing p r.picks) r.chooser) ≡ steps_of p (with_entries r.picks es)
      unfolding steps_of
      drawn_steps = ap (feet (thread_step (look_of p r.picks)) (start_config p r.picks)) (sym h.entries)
