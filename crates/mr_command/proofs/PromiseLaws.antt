-- What is promised of a call, from how it ends.
use Rattle.mr_command.proofs.Common.{ℕ, List, Option, Contents, predicted, listed, ran, reported, races_least, reported_least, said, upgraded, Command, Ends, Shown}
use Rattle.mr_command.specs.declared.command.Saying.TheVariants.{Canonical, Drawn}
use Rattle.mr_command.specs.Promises.{PromisesOfRuns, PromisesOfTexts, PromisesOfTraces}
use Rattle.mr_command.proofs.HeadlineLaws as told
use Rattle.mr_command.proofs.OnlyLaws as only
use Rattle.mr_command.proofs.StatusLaws.{said_least}
use Rattle.mr_command.proofs.TraceRuns.{traced_run}

module _ (files : Contents) (command : Option Command) (files_rose out_rose : Type 0) (old new : Option (List ℕ)) (status : ℕ)
    (ends : Ends files command files_rose out_rose old new status) where
  pub of_runs : PromisesOfRuns files command files_rose out_rose old new status
  of_runs = record {
    reported = λ format p v w names. told.reports_run files command files_rose out_rose old new status format p v w names ends;
    complete = λ format p v w names.
        told.least_unless_faults (reported format p v w (ran p w)) files_rose out_rose old new status (reported_least format p v w (ran p w))
        (told.reports_run files command files_rose out_rose old new status format p v w names ends).report;
    only_legal = λ format program schedule is. only.only_legal files files_rose out_rose old new status command format program schedule is ends;
    schedule_fault = λ line code names. told.schedule_fault_told files command files_rose out_rose old new status line code names ends;
    broken_schedule = λ v w fault names. told.broken_schedule_told files command files_rose out_rose old new status v w fault names ends;
    drawn = λ number most p draws. (
      told.drawn_soundly p number most draws.well_formed,
      told.said_told files command files_rose out_rose old new status (Drawn number most) p draws ends,
    );
    draws = λ number most p draws.
        told.least_unless_faults (said (Drawn number most) p) files_rose out_rose old new status (said_least (Drawn number most) p)
        (told.said_told files command files_rose out_rose old new status (Drawn number most) p draws ends);
    only_drawn = λ program number most is. only.only_said files files_rose out_rose old new status command (Drawn number most) program is ends;
  }

  pub of_texts : PromisesOfTexts files command files_rose out_rose old new status
  of_texts = record {
    canonical = λ p checks. told.said_told files command files_rose out_rose old new status Canonical p checks ends;
    only_sound = λ program is. only.only_said files files_rose out_rose old new status command Canonical program is ends;
    text_fault = λ fault names. told.fault_told files command files_rose out_rose old new status fault names ends;
    form = λ p fault names. told.form_told files command files_rose out_rose old new status p fault names ends;
    upgraded = λ v w upgrades. told.upgraded_told files command files_rose out_rose old new status v w upgrades ends;
    upgrades = λ v w upgrades.
        told.unless_faults (upgraded w) files_rose out_rose old new status (told.upgraded_told files command files_rose out_rose old new status v w upgrades ends);
    only_upgraded = λ schedule is. only.only_upgraded files files_rose out_rose old new status command schedule is ends;
    only_text = λ schedule is. only.only_text files files_rose out_rose old new status command schedule is ends;
  }

  pub of_traces : Shown files command status → PromisesOfTraces files command files_rose out_rose old new status
  of_traces shows = record {
    traced = λ p v w names. traced_run files command p v w status names shows;
    replayed = λ run replays. told.replayed_told files command files_rose out_rose old new status run replays ends;
    replays = λ run replays.
        told.least_unless_faults (listed (predicted run)) files_rose out_rose old new status (races_least (predicted run))
        (told.replayed_told files command files_rose out_rose old new status run replays ends);
    only_replayed = λ trace is. only.only_replayed files files_rose out_rose old new status command trace is shows ends;
    trace_fault = λ at code names. told.trace_fault_told files command files_rose out_rose old new status at code names ends;
    only_fault = only.only_fault files files_rose out_rose old new status command shows ends;
  }
