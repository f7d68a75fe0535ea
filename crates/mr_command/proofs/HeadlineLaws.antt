-- What is told of a run, of a text or of a trace follows from how a call ends.
use Rattle.mr_command.proofs.Common.{◌≡◌, ℕ, ◌≤◌, ap, ◌∙◌, refl, subst, arith, List, ◌⊎◌, inl, inr, Some, None, Option, Ok, Err, Program, Contents, TextFault, Schedule, Version, predicted, PlacedFault, run_of, steps_of, FormFault, WellFormed, faults_of, Footprint, Answer, form_or, refused, told, holding, program_in, schedule_in, denoted, spelled, IsLeft, IsWritten, written_status, Format, big_answer, big_schedule, ran, unless_broken, listed, reported, at_most_one, Saying, Command, NamesProgram, OfNumber, OfProgram, OfSchedule, OfTrace, Run, races_in, read_report, said, said_answer, shown, report_under, run_answer, upgrade_answer, upgraded, answer_of, Ends, EndsOverTexts, IsPossible, AsksOf, NamesRun, IsTold, Upgrades}
use Rattle.mr_grammar.specs.Denotes.{Denotes}
use Rattle.mr_grammar.specs.Faults.{FirstFault}
use Rattle.mr_grammar.proofs.ParsingLaws.{denotes_parsed, fault_parsed}
use Rattle.mr_sched.proofs.TextLaws.{as_read, schedule_again, schedule_fails_at}
use Rattle.mr_run.specs.StartRuns.{Legal}
use Rattle.mr_run.proofs.StartRunLaws.{no_schedule_fault}
use Rattle.mr_run.proofs.StartStartSound.{sound_run}
use Rattle.mr_gen.specs.Generated.{generated}
use Rattle.mr_gen.proofs.GeneratedLaws.{well_formed}
use Rattle.mr_answer.specs.AutoDrawing.{drawn_schedule}
use Rattle.mr_answer.proofs.AutoLegalRuns.{schedule_legal}
use Rattle.mr_run.proofs.WitnessKept.{first_witness}
use Rattle.mr_run.proofs.ExchangeFirst.{first_of_predicted}
use Rattle.mr_run.proofs.WitnessShortWitness.{witness_of_run}
use Rattle.mr_run.specs.WitnessShuffled.{shuffled}
use Rattle.mr_run.proofs.WitnessCopied.{shuffled_same}
use Rattle.mr_run.proofs.WitnessDrawn.{shuffled_rearranged}
use Rattle.mr_event.proofs.Tests.{predicted_is}
use Rattle.mr_trace.proofs.TraceLaws.{fault_so, trace_again}
use Rattle.mr_input.specs.Answer.{form_answer}
use Rattle.mr_input.specs.Inputs.{text_refusal}
use Rattle.mr_input.proofs.AnswerLaws.{first_told}
use Rattle.mr_answer.specs.Answers.{legal_run, line_at}
use Rattle.mr_command.specs.Outcome.{RanOut, IsUnread}
use Rattle.mr_command.specs.Named.{IsSoundUnder, NamesBroken, NamesBrokenSchedule, NamesFault, NamesScheduleFault, KeepsResult, ReadsSchedule, RunsProgram, ReportsRun, ShowsFirstRace}
use Rattle.mr_command.specs.Traces.{NamesTraceFault, Replays}
use Rattle.mr_trace.specs.Reading.{races_in as races_read, races_of, trace_of}
use Rattle.mr_input.specs.declared.refusal.Refusal.TheVariants as refusal
use Rattle.mr_answer.specs.declared.formats.Format.TheVariants as format

-- ---- what a file holds

pub denoted_in : (file : Option (List ℕ)) (text : List ℕ) (p : Program) → file ≡ Some text → Denotes text p → program_in file ≡ Ok p
denoted_in file text p there d = ap program_in there ∙ ap denoted (denotes_parsed text p d)

fault_in : (file : Option (List ℕ)) (text : List ℕ) (fault : TextFault) → file ≡ Some text → FirstFault text fault → program_in file ≡ Err (text_refusal fault)
fault_in file text fault there f = ap program_in there ∙ ap denoted (fault_parsed text fault f)

-- ---- the answers by definition

-- a well-formed program and a legal schedule are answered by the report of their run
pub named_answer : (files : Contents) (command : Option Command) (format : Format) (p : Program) (v : Version) (w : Schedule) → NamesRun files command format p v w
    → answer_of files command ≡ reported format p v w (ran p w)
named_answer files command format p v w h =
    let program = denoted_in (files h.program_name) h.program_text p h.program_there h.denotes in
    let schedule : schedule_in (files h.schedule_name) ≡ Ok (as_read v w) = ap schedule_in h.schedule_there ∙ ap spelled (schedule_again h.schedule_text v w h.schedules) in
    let legal : legal_run v p w ≡ Ok (ran p w) = ap (λ f. unless_broken v w f (ran p w)) (no_schedule_fault p w h.legal) in
    ap (answer_of files) h.is_run
    ∙ ap (told (run_answer format (files h.schedule_name))) program
    ∙ ap (λ faults. form_or p faults (report_under format (files h.schedule_name) p)) h.well_formed.unbroken
    ∙ ap (told (read_report format p)) schedule
    ∙ ap (told (reported format p v w)) legal

-- a well-formed program is answered by what is said of it
pub said_answered : (files : Contents) (command : Option Command) (saying : Saying) (p : Program) → AsksOf files command saying p → answer_of files command ≡ said saying p
said_answered files command saying p h =
    ap (answer_of files) h.is_asked
    ∙ ap (told (said_answer saying)) (denoted_in (files h.name) h.text p h.there h.denotes)
    ∙ ap (λ faults. form_or p faults (said saying p)) h.well_formed.unbroken

-- a well-formed program is run soundly under what is drawn for it
pub drawn_soundly : (p : Program) (number most : ℕ) → WellFormed p → IsSoundUnder p (drawn_schedule p number most)
drawn_soundly p number most well =
    let legal = schedule_legal p number most well in
    record {
      legal = legal;
      sound = sound_run p (drawn_schedule p number most) well legal;
      witness = first_witness p (drawn_schedule p number most) well legal;
    }

-- the first fault of a program's text is told by each command
fault_answer : (files : Contents) (command : Option Command) (fault : TextFault) → NamesFault files command fault → answer_of files command ≡ refused (text_refusal fault)
fault_answer files command fault h = go h.names_program
  where
    at : program_in (files h.name) ≡ Err (text_refusal fault)
    at = fault_in (files h.name) h.text fault h.there h.first

    go : NamesProgram command h.name → answer_of files command ≡ refused (text_refusal fault)
    go (inl (saying, is)) = ap (answer_of files) is ∙ ap (told (said_answer saying)) at
    go (inr (format, schedule, is)) = ap (answer_of files) is ∙ ap (told (run_answer format (files schedule))) at

-- the first rule that a program breaks is told by each command
broken_answer : (files : Contents) (command : Option Command) (p : Program) (fault : FormFault) → NamesBroken files command p fault → answer_of files command ≡ form_answer p fault
broken_answer files command p fault h = go h.judges
  where
    at : program_in (files h.name) ≡ Ok p
    at = denoted_in (files h.name) h.text p h.there h.denotes

    go : NamesProgram command h.name → answer_of files command ≡ form_answer p fault
    go (inl (saying, is)) = ap (answer_of files) is ∙ ap (told (said_answer saying)) at ∙ first_told p (faults_of p) fault (said saying p) h.first
    go (inr (format, schedule, is)) =
        ap (answer_of files) is
        ∙ ap (told (run_answer format (files schedule))) at
        ∙ first_told p (faults_of p) fault (report_under format (files schedule) p) h.first

-- a well-formed program that is run is answered by what its schedule's file gives
run_answer_of : (files : Contents) (command : Option Command) (p : Program) (schedule : List ℕ) (h : RunsProgram files command p schedule)
    → answer_of files command ≡ report_under h.format (files schedule) p
run_answer_of files command p schedule h =
    let program = denoted_in (files h.name) h.text p h.there h.denotes in
    ap (answer_of files) h.is_run
    ∙ ap (told (run_answer h.format (files schedule))) program
    ∙ ap (λ faults. form_or p faults (report_under h.format (files schedule) p)) h.well_formed.unbroken

-- the first fault of a schedule's text is told
schedule_fault_answer : (files : Contents) (command : Option Command) (line code : ℕ) → NamesScheduleFault files command line code
    → answer_of files command ≡ refused (refusal.Schedule line code None)
schedule_fault_answer files command line code h = go h.reads
  where
    go : ReadsSchedule files command h.schedule_name → answer_of files command ≡ refused (refusal.Schedule line code None)
    go (inl (p, runs)) =
        run_answer_of files command p h.schedule_name runs
        ∙ ap (λ file. report_under runs.format file p) h.there
        ∙ ap (λ r. told (read_report runs.format p) (spelled r)) (schedule_fails_at h.text line code h.first)
    go (inr is) =
        ap (answer_of files) is
        ∙ ap (λ file. told upgrade_answer (schedule_in file)) h.there
        ∙ ap (λ r. told upgrade_answer (spelled r)) (schedule_fails_at h.text line code h.first)

-- the first rule that a schedule breaks is told
broken_schedule_answer : (files : Contents) (command : Option Command) (v : Version) (w : Schedule) (fault : PlacedFault) → NamesBrokenSchedule files command v w fault
    → answer_of files command ≡ refused (refusal.Schedule (line_at v w fault.line) fault.fault.code fault.fault.earlier)
broken_schedule_answer files command v w fault h =
    run_answer_of files command h.program h.schedule_name h.runs
    ∙ ap (λ file. report_under h.runs.format file h.program) h.there
    ∙ ap (λ r. told (read_report h.runs.format h.program) (spelled r)) (schedule_again h.text v w h.schedules)
    ∙ ap (λ f. told (reported h.runs.format h.program v w) (unless_broken v w f (ran h.program w))) h.first

-- a schedule that is upgraded is answered by its text in version 2
pub upgraded_answer : (files : Contents) (command : Option Command) (v : Version) (w : Schedule) → Upgrades files command v w → answer_of files command ≡ upgraded w
upgraded_answer files command v w h =
    ap (answer_of files) h.is_upgrade
    ∙ ap (λ file. told upgrade_answer (schedule_in file)) h.there
    ∙ ap (λ r. told upgrade_answer (spelled r)) (schedule_again h.text v w h.schedules)

pub races_from : (bytes : List ℕ) → races_of bytes ≡ races_read (trace_of bytes)
unfolding races_of
races_from bytes = refl

-- the bytes of a run are answered by its races
pub replayed_answer : (files : Contents) (command : Option Command) (run : List Footprint) → Replays files command run → answer_of files command ≡ listed (predicted run)
replayed_answer files command run h =
    ap (answer_of files) h.is_offline
    ∙ ap (λ file. told listed (races_in file)) h.there
    ∙ ap (λ r. told listed (shown r)) (races_from h.bytes ∙ ap races_read (trace_again h.bytes run h.traces))

-- and the first fault of bytes is told
pub trace_fault_answer : (files : Contents) (command : Option Command) (at code : ℕ) → NamesTraceFault files command at code
    → answer_of files command ≡ refused (refusal.Trace at code)
trace_fault_answer files command at code h =
    ap (answer_of files) h.is_offline
    ∙ ap (λ file. told listed (races_in file)) h.there
    ∙ ap (λ r. told listed (shown r)) (races_from h.bytes ∙ ap races_read (fault_so h.bytes at code h.first))

-- ---- witnesses and other orders

-- what is shown for the first race is a witness
pub witnessed : (format : Format) (p : Program) (w : Schedule) → WellFormed p → Legal p w → ShowsFirstRace format p w
witnessed format.Text p w well legal = first_witness p w well legal
witnessed format.Json p w well legal = first_witness p w well legal
witnessed format.Short p w well legal = λ pair races e. witness_of_run p w _ (steps_of p w) pair.first pair.second well legal refl (first_of_predicted (steps_of p w) pair races e) refl
witnessed format.Footprints p w well legal = first_witness p w well legal
witnessed (format.Shuffled number) p w well legal = first_witness p w well legal

-- another order comes to the same
keeps_result : (format : Format) (p : Program) (w : Schedule) → WellFormed p → Legal p w → KeepsResult format p w
keeps_result format.Text p w well legal = tt
keeps_result format.Json p w well legal = tt
keeps_result format.Short p w well legal = tt
keeps_result format.Footprints p w well legal = tt
keeps_result (format.Shuffled number) p w well legal = λ none. (
  shuffled_rearranged (steps_of p w) number,
  shuffled_same (steps_of p w) w (shuffled (steps_of p w) w number) number refl p well legal refl none,
)

-- ---- how a call ends

pub ran_out : (command : Option Command) (old new : Option (List ℕ)) (status : ℕ) → RanOut command old new status → IsLeft old new status
ran_out None old new status h = absurd h
ran_out (Some c) old new status h = h

-- the status of the line of a read that failed
pub unread_status : (files : Contents) (command : Option Command) (a : Answer) → IsUnread files command a → a.status ≡ 6
unread_status files None a h = absurd h
unread_status files (Some (Run format program schedule)) a (inl h) = ap (λ (b : Answer). b.status) h
unread_status files (Some (Run format program schedule)) a (inr h) = ap (λ (b : Answer). b.status) h.3
unread_status files (Some (OfProgram saying program)) a h = ap (λ (b : Answer). b.status) h
unread_status files (Some (OfSchedule schedule)) a h = ap (λ (b : Answer). b.status) h
unread_status files (Some (OfTrace trace)) a h = ap (λ (b : Answer). b.status) h
unread_status files (Some (OfNumber number)) a h = absurd h

module _ (files : Contents) (command : Option Command) (files_rose out_rose : Type 0) (old new : Option (List ℕ)) (status : ℕ) where
  possible_told : (a b : Answer) → answer_of files command ≡ b → IsPossible files command files_rose a → IsWritten a out_rose old new status
      → IsTold b files_rose out_rose old new status
  possible_told a b e (inl is) written = inl (subst (λ c. IsWritten c out_rose old new status) (is ∙ e) written)
  possible_told a b e (inr unread) written =
      inr (inr (
        unread.0,
        elim (written_status a out_rose old new status written) [
          | inl s ↦ inl (s ∙ unread_status files command a unread.1)
          | inr f ↦ inr f.1
        ],
      ))

  -- the answer by definition is told
  ends_told : (b : Answer) → answer_of files command ≡ b → Ends files command files_rose out_rose old new status → IsTold b files_rose out_rose old new status
  ends_told b e (inl out) = inr (inl (ran_out command old new status out))
  ends_told b e (inr ends) = possible_told ends.0 b e ends.1 ends.2

  pub reports_run : (format : Format) (p : Program) (v : Version) (w : Schedule) → NamesRun files command format p v w → Ends files command files_rose out_rose old new status
      → ReportsRun format p v w files_rose out_rose old new status
  reports_run format p v w h e = record {
    sound = sound_run p w h.well_formed h.legal;
    races = predicted_is (steps_of p w);
    witness = witnessed format p w h.well_formed h.legal;
    order = keeps_result format p w h.well_formed h.legal;
    report = ends_told (reported format p v w (ran p w)) (named_answer files command format p v w h) e;
  }

  pub said_told : (saying : Saying) (p : Program) → AsksOf files command saying p → Ends files command files_rose out_rose old new status
      → IsTold (said saying p) files_rose out_rose old new status
  said_told saying p h e = ends_told (said saying p) (said_answered files command saying p h) e

  pub fault_told : (fault : TextFault) → NamesFault files command fault → Ends files command files_rose out_rose old new status
      → IsTold (refused (text_refusal fault)) files_rose out_rose old new status
  fault_told fault h e = ends_told (refused (text_refusal fault)) (fault_answer files command fault h) e

  pub form_told : (p : Program) (fault : FormFault) → NamesBroken files command p fault → Ends files command files_rose out_rose old new status
      → IsTold (form_answer p fault) files_rose out_rose old new status
  form_told p fault h e = ends_told (form_answer p fault) (broken_answer files command p fault h) e

  pub schedule_fault_told : (line code : ℕ) → NamesScheduleFault files command line code → Ends files command files_rose out_rose old new status
      → IsTold (refused (refusal.Schedule line code None)) files_rose out_rose old new status
  schedule_fault_told line code h e = ends_told (refused (refusal.Schedule line code None)) (schedule_fault_answer files command line code h) e

  pub broken_schedule_told : (v : Version) (w : Schedule) (fault : PlacedFault) → NamesBrokenSchedule files command v w fault → Ends files command files_rose out_rose old new status
      → IsTold (refused (refusal.Schedule (line_at v w fault.line) fault.fault.code fault.fault.earlier)) files_rose out_rose old new status
  broken_schedule_told v w fault h e =
      ends_told (refused (refusal.Schedule (line_at v w fault.line) fault.fault.code fault.fault.earlier)) (broken_schedule_answer files command v w fault h) e

  pub replayed_told : (run : List Footprint) → Replays files command run → Ends files command files_rose out_rose old new status
      → IsTold (listed (predicted run)) files_rose out_rose old new status
  replayed_told run h e = ends_told (listed (predicted run)) (replayed_answer files command run h) e

  pub trace_fault_told : (at code : ℕ) → NamesTraceFault files command at code → Ends files command files_rose out_rose old new status
      → IsTold (refused (refusal.Trace at code)) files_rose out_rose old new status
  trace_fault_told at code h e = ends_told (refused (refusal.Trace at code)) (trace_fault_answer files command at code h) e

  pub upgraded_told : (v : Version) (w : Schedule) → Upgrades files command v w → Ends files command files_rose out_rose old new status
      → IsTold (upgraded w) files_rose out_rose old new status
  upgraded_told v w h e = ends_told (upgraded w) (upgraded_answer files command v w h) e

-- without faults the status is that of the answer, unless memory ran out
module _ (a : Answer) (files_rose out_rose : Type 0) (old new : Option (List ℕ)) (status : ℕ) where
  pub unless_faults : IsTold a files_rose out_rose old new status → ¬ files_rose → ¬ out_rose → (status ≡ a.status) ⊎ (status ≡ 8)
  unless_faults (inl written) no_read no_write =
      elim (written_status a out_rose old new status written) [ inl s ↦ inl s | inr f ↦ absurd (no_write f.0) ]
  unless_faults (inr (inl left)) no_read no_write = inr left.0
  unless_faults (inr (inr f)) no_read no_write = absurd (no_read f.0)

  pub least_unless_faults : a.status ≤ 1 → IsTold a files_rose out_rose old new status → ¬ files_rose → ¬ out_rose → (status ≤ 1) ⊎ (status ≡ 8)
  least_unless_faults least is_told no_read no_write =
      elim (unless_faults is_told no_read no_write) [ inl s ↦ inl (omega (arith, s, least)) | inr eight ↦ inr eight ]

-- ---- the program of a number

-- it is run soundly
pub big_soundly : (number : ℕ) → IsSoundUnder (generated number) (big_schedule number)
big_soundly number = drawn_soundly (generated number) number 65536 (well_formed number)

module _ (number : ℕ) (files_rose out_rose : Type 0) (old new : Option (List ℕ)) (status : ℕ) where
  -- its summary is written, unless memory ran out
  big_told : (files : Contents) (command : Option Command) → command ≡ Some (OfNumber number) → Ends files command files_rose out_rose old new status
      → IsLeft old new status ⊎ IsWritten (big_answer number) out_rose old new status
  big_told files command e ends = go (subst (λ c. Ends files c files_rose out_rose old new status) e ends)
    where
      go : Ends files (Some (OfNumber number)) files_rose out_rose old new status → IsLeft old new status ⊎ IsWritten (big_answer number) out_rose old new status
      go (inl out) = inl out
      go (inr (a, inl is, written)) = inr (subst (λ (b : Answer). IsWritten b out_rose old new status) is written)
      go (inr (a, inr (rose, unread), written)) = absurd unread

  -- whatever the files tell
  pub big_written : (tale : Option Contents) (command : Option Command) → command ≡ Some (OfNumber number)
      → ((files : Contents) → tale ≡ Some files → Ends files command files_rose out_rose old new status)
      → (tale ≡ None → EndsOverTexts command files_rose out_rose old new status)
      → IsLeft old new status ⊎ IsWritten (big_answer number) out_rose old new status
  big_written (Some files) command e ends texts = big_told files command e (ends files refl)
  big_written None command e ends texts = over (subst (λ c. EndsOverTexts c files_rose out_rose old new status) e (texts refl))
    where
      over : EndsOverTexts (Some (OfNumber number)) files_rose out_rose old new status → IsLeft old new status ⊎ IsWritten (big_answer number) out_rose old new status
      over (program, schedule, ends) = big_told (holding program schedule) (Some (OfNumber number)) refl ends

  pub big_unless_faults : IsLeft old new status ⊎ IsWritten (big_answer number) out_rose old new status → ¬ out_rose → (status ≤ 1) ⊎ (status ≡ 8)
  big_unless_faults (inl left) no_write = inr left.0
  big_unless_faults (inr written) no_write =
      elim (written_status (big_answer number) out_rose old new status written) [
        | inl s ↦ inl (let least = at_most_one (run_of (generated number) (big_schedule number)).verdict (predicted (steps_of (generated number) (big_schedule number))) in omega arith)
        | inr f ↦ absurd (no_write f.0)
      ]
