-- Where 0 or 1 is answered, the files hold what is defined for it.
use Rattle.mr_command.proofs.Common.{◌≡◌, ℕ, ◌<◌, ◌≤◌, ◌^◌, ap, ◌∙◌, sym, subst, arith, List, [], ◌∷◌, length, inl, inr, refl, Some, None, Option, Result, Ok, Err, Program, Contents, TextFault, Schedule, Read, Version, PlacedFault, schedule_fault, FormFault, WellFormed, faults_of, Footprint, predicted, Format, Saying, Command, OfProgram, OfSchedule, OfTrace, Run, Answer, form_or, told, denoted, program_in, schedule_in, spelled, Ran, listed, ran, reported, unless_broken, answer_of, races_in, read_report, report_under, run_answer, said, said_answer, shown, upgrade_answer, upgraded, Ends, AsksOf, NamesRun, Upgrades, HasBytes, Shown, races_least}
use Rattle.std.specs.Io.KnownBytes.{append_known}
use Rattle.mr_grammar.specs.Parsing.{parsed}
use Rattle.mr_grammar.proofs.ParsingLaws.{parsed_denotes}
use Rattle.mr_grammar.proofs.Shape.ShapedLaws.{denoted_is_shaped}
use Rattle.mr_sched.specs.Reading.{Fault, schedule_of}
use Rattle.mr_sched.proofs.TextLaws.{schedule_failed, schedule_read}
use Rattle.mr_run.proofs.StartRunLaws.{legal_schedule}
use Rattle.mr_base.specs.declared.trace_rule.TheConstants.{TOO_LONG}
use Rattle.mr_trace.specs.Faults.{too_long}
use Rattle.mr_trace.proofs.TraceLaws.{fault_is, trace_is}
use Rattle.mr_input.specs.Writing.{IsWhole}
use Rattle.mr_command.specs.Named.{HasScheduleFault, ReportsLegalRun, WritesSaid, WritesUpgraded}
use Rattle.mr_command.specs.Traces.{HasTraceFault, Replays, WritesRaces}
use Rattle.mr_trace.specs.Reading.{Place, races_in as races_read, trace_of}
use Rattle.mr_command.proofs.HeadlineLaws.{named_answer, races_from, ran_out, replayed_answer, said_answered, unread_status, upgraded_answer}
use Rattle.mr_command.proofs.ListedLaws.{long_trace}
use Rattle.mr_command.proofs.StatusLaws.{only_offline}

-- a program that a text denotes and that breaks no rule is well-formed
unbroken_well_formed : (text : List ℕ) (p : Program) → parsed text ≡ Ok p → faults_of p ≡ [] → WellFormed p
unbroken_well_formed text p parses none = record { shaped = denoted_is_shaped text p (parsed_denotes text p parses); unbroken = none }

-- ---- where a status is at most 1

no_fault : (format : Format) (p : Program) (v : Version) (w : Schedule) (f : Option PlacedFault) (c : Ran) → (told (reported format p v w) (unless_broken v w f c)).status ≤ 1
    → f ≡ None
no_fault format p v w None c s = refl
no_fault format p v w (Some f) c s = let five : 5 ≤ 1 = s in absurd (omega arith)

legal_schedule_of : (format : Format) (p : Program) (r : Result Read Fault) → (told (read_report format p) (spelled r)).status ≤ 1
    → (x : Read) × (r ≡ Ok x) × (schedule_fault p x.schedule ≡ None)
legal_schedule_of format p (Ok x) s = (x, refl, no_fault format p x.version x.schedule (schedule_fault p x.schedule) (ran p x.schedule) s)
legal_schedule_of format p (Err f) s = let five : 5 ≤ 1 = s in absurd (omega arith)

legal_schedule_in : (format : Format) (p : Program) (file : Option (List ℕ)) → (report_under format file p).status ≤ 1
    → (text : List ℕ) × (file ≡ Some text) × (x : Read) × (schedule_of text ≡ Ok x) × (schedule_fault p x.schedule ≡ None)
legal_schedule_in format p None s = let six : 6 ≤ 1 = s in absurd (omega arith)
legal_schedule_in format p (Some text) s = let (x, spells, lawful) = legal_schedule_of format p (schedule_of text) s in (text, refl, x, spells, lawful)

no_broken_rule : (p : Program) (faults : List FormFault) (a : Answer) → (form_or p faults a).status ≤ 1 → (faults ≡ []) × (a.status ≤ 1)
no_broken_rule p [] a s = (refl, s)
no_broken_rule p (f ∷ faults) a s = let four : 4 ≤ 1 = s in absurd (omega arith)

-- a program that is run to a report breaks no rule, and its schedule is reported
pub record IsRunSoundly (format : Format) (p : Program) (schedule : Option (List ℕ)) : Type 0 where
  pub unbroken : faults_of p ≡ []
  pub small : (report_under format schedule p).status ≤ 1

run_soundly : (format : Format) (p : Program) (schedule : Option (List ℕ)) → (run_answer format schedule p).status ≤ 1 → IsRunSoundly format p schedule
run_soundly format p schedule s =
    let unbroken = no_broken_rule p (faults_of p) (report_under format schedule p) s in record { unbroken = unbroken.0; small = unbroken.1 }

sound_program_of : (format : Format) (r : Result Program TextFault) (schedule : Option (List ℕ)) → (told (run_answer format schedule) (denoted r)).status ≤ 1
    → (p : Program) × (r ≡ Ok p) × IsRunSoundly format p schedule
sound_program_of format (Ok p) schedule s = (p, refl, run_soundly format p schedule s)
sound_program_of format (Err f) schedule s = let three : 3 ≤ 1 = s in absurd (omega arith)

unbroken_program_of : (saying : Saying) (r : Result Program TextFault) → (told (said_answer saying) (denoted r)).status ≤ 1 → (p : Program) × (r ≡ Ok p) × (faults_of p ≡ [])
unbroken_program_of saying (Ok p) s = (p, refl, (no_broken_rule p (faults_of p) (said saying p) s).0)
unbroken_program_of saying (Err f) s = let three : 3 ≤ 1 = s in absurd (omega arith)

module _ (files : Contents) where
  named_of : (format : Format) (program schedule : List ℕ) (file : Option (List ℕ)) → files program ≡ file → (told (run_answer format (files schedule)) (program_in file)).status ≤ 1
      → (p : Program) × (v : Version) × (w : Schedule) × NamesRun files (Some (Run format program schedule)) format p v w
  named_of format program schedule None e s = let six : 6 ≤ 1 = s in absurd (omega arith)
  named_of format program schedule (Some text) e s =
      let (p, parses, sound) = sound_program_of format (parsed text) (files schedule) s in
      let (schedule_text, there, x, spells, lawful) = legal_schedule_in format p (files schedule) sound.small in (
        p,
        x.version,
        x.schedule,
        record {
          program_name = program;
          schedule_name = schedule;
          is_run = refl;
          program_text = text;
          program_there = e;
          denotes = parsed_denotes text p parses;
          well_formed = unbroken_well_formed text p parses sound.unbroken;
          schedule_text = schedule_text;
          schedule_there = there;
          schedules = schedule_read schedule_text x spells;
          legal = legal_schedule p x.schedule lawful;
        },
      )

  said_of : (saying : Saying) (program : List ℕ) (file : Option (List ℕ)) → files program ≡ file → (told (said_answer saying) (program_in file)).status ≤ 1
      → (p : Program) × AsksOf files (Some (OfProgram saying program)) saying p
  said_of saying program None e s = let six : 6 ≤ 1 = s in absurd (omega arith)
  said_of saying program (Some text) e s =
      let (p, parses, unbroken) = unbroken_program_of saying (parsed text) s in (
        p,
        record {
          name = program;
          is_asked = refl;
          text = text;
          there = e;
          denotes = parsed_denotes text p parses;
          well_formed = unbroken_well_formed text p parses unbroken;
        },
      )

-- ---- schedules that are upgraded

read_of : (r : Result Read Fault) → (told upgrade_answer (spelled r)).status ≤ 1 → (x : Read) × (r ≡ Ok x)
read_of (Ok x) s = (x, refl)
read_of (Err f) s = let five : 5 ≤ 1 = s in absurd (omega arith)

fault_of : (r : Result Read Fault) → (told upgrade_answer (spelled r)).status ≡ 5 → (f : Fault) × (r ≡ Err f)
fault_of (Ok x) s = let zero : 0 ≡ 5 = s in absurd (omega arith)
fault_of (Err f) s = (f, refl)

module _ (files : Contents) (schedule : List ℕ) where
  upgraded_of : (file : Option (List ℕ)) → files schedule ≡ file → (told upgrade_answer (schedule_in file)).status ≤ 1
      → (v : Version) × (w : Schedule) × Upgrades files (Some (OfSchedule schedule)) v w
  upgraded_of None e s = let six : 6 ≤ 1 = s in absurd (omega arith)
  upgraded_of (Some text) e s =
      let (x, spells) = read_of (schedule_of text) s in
      (x.version, x.schedule, record { name = schedule; is_upgrade = refl; text = text; there = e; schedules = schedule_read text x spells })

  faulty_of : (file : Option (List ℕ)) → files schedule ≡ file → (told upgrade_answer (schedule_in file)).status ≡ 5 → HasScheduleFault files (Some (OfSchedule schedule))
  faulty_of None e s = let six : 6 ≡ 5 = s in absurd (omega arith)
  faulty_of (Some text) e s =
      let (f, fails) = fault_of (schedule_of text) s in
      (f.line, f.code, record { schedule_name = schedule; reads = inr refl; text = text; there = e; first = schedule_failed text f fails })

-- ---- traces

run_in_trace : (r : Result (List Footprint) Place) → (told listed (shown (races_read r))).status ≤ 1 → (run : List Footprint) × (r ≡ Ok run)
run_in_trace (Ok run) s = (run, refl)
run_in_trace (Err f) s = let nine : 9 ≤ 1 = s in absurd (omega arith)

fault_in_trace : (r : Result (List Footprint) Place) → (told listed (shown (races_read r))).status ≡ 9 → (f : Place) × (r ≡ Err f)
fault_in_trace (Ok run) s = let least = races_least (predicted run) in absurd (omega (arith, s, least))
fault_in_trace (Err f) s = (f, refl)

long_status : (text : List ℕ) → 2 ^ 28 < length text → (told listed (races_in (Some text))).status ≡ 9
long_status text long = ap (λ r. (told listed r).status) (long_trace (Some text) text refl long)

module _ (files : Contents) (trace : List ℕ) where
  replayed_of : (file : Option (List ℕ)) → files trace ≡ file → HasBytes file → (told listed (races_in file)).status ≤ 1 → (run : List Footprint) × Replays files (Some (OfTrace trace)) run
  replayed_of None e bytes s = absurd bytes
  replayed_of (Some text) e (inr long) s = let nine = long_status text long in absurd (omega (arith, s, nine))
  replayed_of (Some text) e (inl bytes) s =
      let small = subst (λ r. (told listed (shown r)).status ≤ 1) (races_from text) s in
      let (run, reads) = run_in_trace (trace_of text) small in
      (run, record { name = trace; is_offline = refl; bytes = text; there = e; traces = trace_is text run bytes reads })

  trace_faulty_of : (file : Option (List ℕ)) → files trace ≡ file → HasBytes file → (told listed (races_in file)).status ≡ 9 → HasTraceFault files (Some (OfTrace trace))
  trace_faulty_of None e bytes s = absurd bytes
  trace_faulty_of (Some text) e (inr long) s =
      (0, TOO_LONG, record { name = trace; is_offline = refl; bytes = text; there = e; first = too_long long refl refl })
  trace_faulty_of (Some text) e (inl bytes) s =
      let nine = subst (λ r. (told listed (shown r)).status ≡ 9) (races_from text) s in
      let (f, fails) = fault_in_trace (trace_of text) nine in
      (f.at, f.code, record { name = trace; is_offline = refl; bytes = text; there = e; first = fault_is text f bytes fails })

-- ---- how a call ends with 0 or 1

module _ (files : Contents) (files_rose out_rose : Type 0) (old new : Option (List ℕ)) (status : ℕ) where
  -- the answer by definition is written whole
  whole_answer : (command : Option Command) → Ends files command files_rose out_rose old new status → status ≤ 1 → IsWhole (answer_of files command) old new status
  whole_answer command (inl out) s = let eight = (ran_out command old new status out).0 in absurd (omega arith)
  whole_answer command (inr (a, inl is, inl (same, text))) s = (same ∙ ap (λ (b : Answer). b.status) is, text ∙ ap (λ (b : Answer). append_known old b.text) is)
  whole_answer command (inr (a, inl is, inr (seven, rises, part))) s = absurd (omega arith)
  whole_answer command (inr (a, inr (rose, unread), inl (same, text))) s = let six = unread_status files command a unread in absurd (omega arith)
  whole_answer command (inr (a, inr (rose, unread), inr (seven, rises, part))) s = absurd (omega arith)

  small_answer : (a : Answer) → IsWhole a old new status → status ≤ 1 → a.status ≤ 1
  small_answer a whole s = let same = whole.0 in omega arith

  same_whole : (a b : Answer) → a ≡ b → IsWhole a old new status → IsWhole b old new status
  same_whole a b e whole = subst (λ c. IsWhole c old new status) e whole

  run_only : (format : Format) (program schedule : List ℕ) → Ends files (Some (Run format program schedule)) files_rose out_rose old new status → status ≤ 1
      → ReportsLegalRun files (Some (Run format program schedule)) format old new status
  run_only format program schedule ends s =
      let command = Some (Run format program schedule) in
      let whole = whole_answer command ends s in
      let (p, v, w, names) = named_of files format program schedule (files program) refl (small_answer (answer_of files command) whole s) in
      (p, v, w, names, same_whole (answer_of files command) (reported format p v w (ran p w)) (named_answer files command format p v w names) whole)

  said_only : (saying : Saying) (program : List ℕ) → Ends files (Some (OfProgram saying program)) files_rose out_rose old new status → status ≤ 1
      → WritesSaid files (Some (OfProgram saying program)) saying old new status
  said_only saying program ends s =
      let command = Some (OfProgram saying program) in
      let whole = whole_answer command ends s in
      let (p, asks) = said_of files saying program (files program) refl (small_answer (answer_of files command) whole s) in
      (p, asks, same_whole (answer_of files command) (said saying p) (said_answered files command saying p asks) whole)

  upgrade_only : (schedule : List ℕ) → Ends files (Some (OfSchedule schedule)) files_rose out_rose old new status → status ≤ 1
      → WritesUpgraded files (Some (OfSchedule schedule)) old new status
  upgrade_only schedule ends s =
      let command = Some (OfSchedule schedule) in
      let whole = whole_answer command ends s in
      let (v, w, upgrades) = upgraded_of files schedule (files schedule) refl (small_answer (answer_of files command) whole s) in
      (v, w, upgrades, same_whole (answer_of files command) (upgraded w) (upgraded_answer files command v w upgrades) whole)

  offline_only : (trace : List ℕ) → HasBytes (files trace) → Ends files (Some (OfTrace trace)) files_rose out_rose old new status → status ≤ 1
      → WritesRaces files (Some (OfTrace trace)) old new status
  offline_only trace bytes ends s =
      let command = Some (OfTrace trace) in
      let whole = whole_answer command ends s in
      let (run, replays) = replayed_of files trace (files trace) refl bytes (small_answer (answer_of files command) whole s) in
      (run, replays, same_whole (answer_of files command) (listed (predicted run)) (replayed_answer files command run replays) whole)

  -- so is 9
  nine_answer : (command : Option Command) → Ends files command files_rose out_rose old new status → status ≡ 9 → (answer_of files command).status ≡ 9
  nine_answer command (inl out) s = let eight = (ran_out command old new status out).0 in absurd (omega arith)
  nine_answer command (inr (a, inl is, inl (same, text))) s = sym (ap (λ (b : Answer). b.status) is) ∙ sym same ∙ s
  nine_answer command (inr (a, inl is, inr (seven, rises, part))) s = absurd (omega arith)
  nine_answer command (inr (a, inr (rose, unread), inl (same, text))) s = let six = unread_status files command a unread in absurd (omega arith)
  nine_answer command (inr (a, inr (rose, unread), inr (seven, rises, part))) s = absurd (omega arith)

  -- 5 is that of the answer by definition
  five_answer : (command : Option Command) → Ends files command files_rose out_rose old new status → status ≡ 5 → (answer_of files command).status ≡ 5
  five_answer command (inl out) s = let eight = (ran_out command old new status out).0 in absurd (omega arith)
  five_answer command (inr (a, inl is, inl (same, text))) s = sym (ap (λ (b : Answer). b.status) is) ∙ sym same ∙ s
  five_answer command (inr (a, inl is, inr (seven, rises, part))) s = absurd (omega arith)
  five_answer command (inr (a, inr (rose, unread), inl (same, text))) s = let six = unread_status files command a unread in absurd (omega arith)
  five_answer command (inr (a, inr (rose, unread), inr (seven, rises, part))) s = absurd (omega arith)

  upgrade_faulty : (schedule : List ℕ) → Ends files (Some (OfSchedule schedule)) files_rose out_rose old new status → status ≡ 5 → HasScheduleFault files (Some (OfSchedule schedule))
  upgrade_faulty schedule ends s = faulty_of files schedule (files schedule) refl (five_answer (Some (OfSchedule schedule)) ends s)

  pub only_legal : (command : Option Command) (format : Format) (program schedule : List ℕ) → command ≡ Some (Run format program schedule)
      → Ends files command files_rose out_rose old new status → status ≤ 1 → ReportsLegalRun files command format old new status
  only_legal command format program schedule e =
      let P : Option Command → Type 0 = λ c. Ends files c files_rose out_rose old new status → status ≤ 1 → ReportsLegalRun files c format old new status in
      subst P (sym e) (run_only format program schedule)

  pub only_said : (command : Option Command) (saying : Saying) (program : List ℕ) → command ≡ Some (OfProgram saying program)
      → Ends files command files_rose out_rose old new status → status ≤ 1 → WritesSaid files command saying old new status
  only_said command saying program e =
      let P : Option Command → Type 0 = λ c. Ends files c files_rose out_rose old new status → status ≤ 1 → WritesSaid files c saying old new status in
      subst P (sym e) (said_only saying program)

  pub only_upgraded : (command : Option Command) (schedule : List ℕ) → command ≡ Some (OfSchedule schedule)
      → Ends files command files_rose out_rose old new status → status ≤ 1 → WritesUpgraded files command old new status
  only_upgraded command schedule e =
      let P : Option Command → Type 0 = λ c. Ends files c files_rose out_rose old new status → status ≤ 1 → WritesUpgraded files c old new status in
      subst P (sym e) (upgrade_only schedule)

  pub only_replayed : (command : Option Command) (trace : List ℕ) → command ≡ Some (OfTrace trace)
      → Shown files command status → Ends files command files_rose out_rose old new status → status ≤ 1 → WritesRaces files command old new status
  only_replayed command trace e =
      let P : Option Command → Type 0 = λ c. Shown files c status → Ends files c files_rose out_rose old new status → status ≤ 1 → WritesRaces files c old new status in
      subst P (sym e) (λ shows ends s. offline_only trace (shows (inl s)) ends s)

  pub only_fault : (command : Option Command) → Shown files command status → Ends files command files_rose out_rose old new status → status ≡ 9 → HasTraceFault files command
  only_fault command shows ends s =
      let nine = nine_answer command ends s in
      let (trace, e) = only_offline files command nine in
      let P : Option Command → Type 0 = λ c. Shown files c status → (answer_of files c).status ≡ 9 → HasTraceFault files c in
      subst P (sym e) (λ known k. trace_faulty_of files trace (files trace) refl (known (inr s)) k) shows nine

  pub only_text : (command : Option Command) (schedule : List ℕ) → command ≡ Some (OfSchedule schedule)
      → Ends files command files_rose out_rose old new status → status ≡ 5 → HasScheduleFault files command
  only_text command schedule e =
      let P : Option Command → Type 0 = λ c. Ends files c files_rose out_rose old new status → status ≡ 5 → HasScheduleFault files c in
      subst P (sym e) (upgrade_faulty schedule)
