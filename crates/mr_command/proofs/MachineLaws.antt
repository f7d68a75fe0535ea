-- The headline follows from what is told of a run in each format.
use Rattle.mr_command.proofs.Common.{◌≡◌, ℕ, ap, ◌∙◌, refl, subst, List, [], ◌∷◌, Some, Option, codes, Program, Contents, Schedule, Version, Footprint, predicted, run_of, steps_of, Answer, ran, reported, Run, command_of, IsTold, NamesRun, Ends}
use Rattle.mr_grammar.proofs.Shape.ShapedLaws.{denoted_is_shaped}
use Rattle.mr_event.specs.declared.footprint.Pair.{Pair}
use Rattle.mr_run.specs.declared.witnesses.Selection.TheVariants.{Kept}
use Rattle.mr_run.specs.Witnesses.{witness_for}
use Rattle.mr_answer.specs.declared.formats.Format.TheVariants.{Text}
use Rattle.mr_answer.specs.Answers.{told_by}
use Rattle.mr_command.specs.Headline.{IsOfMachine, Names, report_in, witness_of}
use Rattle.mr_command.proofs.HeadlineLaws.{reports_run}

-- these words ask for a run, with its report as text
run_words : (program schedule : List ℕ) → command_of (codes "run" ∷ program ∷ schedule ∷ []) ≡ Some (Run Text program schedule)
run_words program schedule = refl

-- the program is well-formed, since what a text denotes is shaped
named_run : (files : Contents) (words : List (List ℕ)) (p : Program) (v : Version) (w : Schedule) → Names files words p v w → NamesRun files (command_of words) Text p v w
named_run files words p v w h = record {
  program_name = h.program_name;
  schedule_name = h.schedule_name;
  is_run = ap command_of h.are_words ∙ run_words h.program_name h.schedule_name;
  program_text = h.program_text;
  program_there = h.program_there;
  denotes = h.denotes;
  well_formed = record { shaped = denoted_is_shaped h.program_text p h.denotes; unbroken = h.unbroken };
  schedule_text = h.schedule_text;
  schedule_there = h.schedule_there;
  schedules = h.schedules;
  legal = h.legal;
}

-- the witness is the kept one
same_witness : (run : List Footprint) (w : Schedule) (races : List Pair) → witness_for Kept run w races ≡ witness_of run w races
same_witness run w [] = refl
same_witness run w (pair ∷ races) = refl

same_report : (p : Program) (v : Version) (w : Schedule) → reported Text p v w (ran p w) ≡ report_in p v w (predicted (steps_of p w))
same_report p v w = ap (told_by Text v (run_of p w) (predicted (steps_of p w))) (same_witness (steps_of p w) w (predicted (steps_of p w)))

module _ (files : Contents) (words : List (List ℕ)) (files_rose out_rose : Type 0) (old new : Option (List ℕ)) (status : ℕ) where
  pub headline : (p : Program) (v : Version) (w : Schedule) → Names files words p v w → Ends files (command_of words) files_rose out_rose old new status
      → IsOfMachine p v w files_rose out_rose old new status
  headline p v w h ends =
      let run = reports_run files (command_of words) files_rose out_rose old new status Text p v w (named_run files words p v w h) ends in
      record {
        sound = run.sound;
        races = predicted (steps_of p w);
        predicted = run.races;
        witness = run.witness;
        report = subst (λ (a : Answer). IsTold a files_rose out_rose old new status) (same_report p v w) run.report;
      }
