-- What is promised of a call over files that tell what they hold, beside the headline.
use Rattle.std.specs.Prelude.{◌≡◌, ℕ, ◌≤◌, ◌^◌, ◌⊎◌, List, Option, None, Some, length}
use Rattle.mr_ast.specs.declared.program.Program.{Program}
use Rattle.mr_event.specs.Footprint.{Footprint}
use Rattle.mr_event.specs.Predicted.{predicted}
use Rattle.mr_io.specs.Files.{Contents}
use Rattle.mr_lex.specs.declared.token.TextFault.{TextFault}
use Rattle.mr_sched.specs.declared.schedule.Schedule.{Schedule}
use Rattle.mr_sched.specs.declared.version.Version.{Version}
use Rattle.mr_run.specs.StartRuns.{PlacedFault, steps_of}
use Rattle.mr_trace.specs.Spelling.{Traces, spelling}
use Rattle.mr_typing.specs.declared.fault.FormFault.{FormFault}
use Rattle.mr_answer.specs.AutoDrawing.{drawn_schedule}
use Rattle.mr_answer.specs.declared.formats.Format.{Format}
use Rattle.mr_answer.specs.declared.formats.Format.TheVariants.{Footprints}
use Rattle.mr_input.specs.declared.refusal.Refusal.TheVariants as refusal
use Rattle.mr_input.specs.Answer.{form_answer, refused}
use Rattle.mr_input.specs.Inputs.{text_refusal}
use Rattle.mr_answer.specs.Answers.{drawn_answer, line_at, listed}
use Rattle.mr_command.specs.Answer.{canonical, upgraded}
use Rattle.mr_command.specs.declared.command.Saying.TheVariants.{Canonical, Drawn}
use Rattle.mr_command.specs.Command.{Command, OfProgram, OfSchedule, OfTrace, Run}
use Rattle.mr_command.specs.Named.{ChecksProgram, DrawsFor, HasScheduleFault, IsSoundUnder, IsTold, NamesRun, NamesBroken, NamesBrokenSchedule, NamesFault, NamesScheduleFault, ReportsLegalRun, ReportsRun, Upgrades, WritesCanonical, WritesDrawn, WritesUpgraded}
use Rattle.mr_command.specs.Traces.{HasTraceFault, NamesTraceFault, Replays, WritesRaces}

-- OF RUNS: of programs under schedules that are recorded or drawn.
pub record PromisesOfRuns (files : Contents) (command : Option Command) (files_rose out_rose : Type 0)
    (old new : Option (List ℕ)) (status : ℕ) : Type 0 where
  -- of a well-formed program and a legal schedule the report of the run is written, in each format
  pub reported : (format : Format) (p : Program) (v : Version) (w : Schedule) → NamesRun files command format p v w
      → ReportsRun format p v w files_rose out_rose old new status
  -- without a counted fault it is, or memory ran out
  pub complete : (format : Format) (p : Program) (v : Version) (w : Schedule) → NamesRun files command format p v w
      → ¬ files_rose → ¬ out_rose → (status ≤ 1) ⊎ (status ≡ 8)
  -- where a run is reported, the files denote a well-formed program and a legal schedule of it
  pub only_legal : (format : Format) (program schedule : List ℕ) → command ≡ Some (Run format program schedule)
      → status ≤ 1 → ReportsLegalRun files command format old new status
  -- a schedule's text is answered by its first fault
  pub schedule_fault : (line code : ℕ) → NamesScheduleFault files command line code
      → IsTold (refused (refusal.Schedule line code None)) files_rose out_rose old new status
  -- and a schedule by the first rule that it breaks, on the line that holds the entry
  pub broken_schedule : (v : Version) (w : Schedule) (fault : PlacedFault) → NamesBrokenSchedule files command v w fault
      → IsTold (refused (refusal.Schedule (line_at v w fault.line) fault.fault.code fault.fault.earlier)) files_rose
      out_rose old new status
  -- a schedule is drawn for a well-formed program: it is legal, and its text and its report are written
  pub drawn : (number most : ℕ) (p : Program) → DrawsFor files command number most p
      → IsSoundUnder p (drawn_schedule p number most)
      × IsTold (drawn_answer p (drawn_schedule p number most)) files_rose out_rose old new status
  pub draws : (number most : ℕ) (p : Program) → DrawsFor files command number most p
      → ¬ files_rose → ¬ out_rose → (status ≤ 1) ⊎ (status ≡ 8)
  -- and for nothing else
  pub only_drawn : (program : List ℕ) (number most : ℕ) → command ≡ Some (OfProgram (Drawn number most) program)
      → status ≤ 1 → WritesDrawn files command number most old new status

-- OF TEXTS: of programs and of schedules.
pub record PromisesOfTexts (files : Contents) (command : Option Command) (files_rose out_rose : Type 0)
    (old new : Option (List ℕ)) (status : ℕ) : Type 0 where
  -- the canonical text of a well-formed program is written, and of nothing else
  pub canonical : (p : Program) → ChecksProgram files command p
      → IsTold (canonical p) files_rose out_rose old new status
  pub only_sound : (program : List ℕ) → command ≡ Some (OfProgram Canonical program)
      → status ≤ 1 → WritesCanonical files command old new status
  -- a program's text is answered by its first fault
  pub text_fault : (fault : TextFault) → NamesFault files command fault
      → IsTold (refused (text_refusal fault)) files_rose out_rose old new status
  -- and a program by the first rule that it breaks
  pub form : (p : Program) (fault : FormFault) → NamesBroken files command p fault
      → IsTold (form_answer p fault) files_rose out_rose old new status
  -- a schedule in either version is written in version 2
  pub upgraded : (v : Version) (w : Schedule) → Upgrades files command v w
      → IsTold (upgraded w) files_rose out_rose old new status
  pub upgrades : (v : Version) (w : Schedule) → Upgrades files command v w
      → ¬ files_rose → ¬ out_rose → (status ≡ 0) ⊎ (status ≡ 8)
  -- nothing else is upgraded, and what refuses a schedule then is a fault of its text
  pub only_upgraded : (schedule : List ℕ) → command ≡ Some (OfSchedule schedule)
      → status ≤ 1 → WritesUpgraded files command old new status
  pub only_text : (schedule : List ℕ) → command ≡ Some (OfSchedule schedule) → status ≡ 5 → HasScheduleFault files command

-- OF TRACES. By the first two fields `offline`, of what `trace` wrote of a run, lists the races of the run.
pub record PromisesOfTraces (files : Contents) (command : Option Command) (files_rose out_rose : Type 0)
    (old new : Option (List ℕ)) (status : ℕ) : Type 0 where
  -- what is written of a run spells it, and no other run
  pub traced : (p : Program) (v : Version) (w : Schedule) → NamesRun files command Footprints p v w
      → status ≤ 1 → length (spelling (steps_of p w)) ≤ 2 ^ 28 → Traces (spelling (steps_of p w)) (steps_of p w)
  -- the races that bytes show are those of the run that they spell
  pub replayed : (run : List Footprint) → Replays files command run
      → IsTold (listed (predicted run)) files_rose out_rose old new status
  pub replays : (run : List Footprint) → Replays files command run
      → ¬ files_rose → ¬ out_rose → (status ≤ 1) ⊎ (status ≡ 8)
  -- nothing else has races
  pub only_replayed : (trace : List ℕ) → command ≡ Some (OfTrace trace)
      → status ≤ 1 → WritesRaces files command old new status
  -- and what refuses bytes is their first fault
  pub trace_fault : (at code : ℕ) → NamesTraceFault files command at code
      → IsTold (refused (refusal.Trace at code)) files_rose out_rose old new status
  pub only_fault : status ≡ 9 → HasTraceFault files command
