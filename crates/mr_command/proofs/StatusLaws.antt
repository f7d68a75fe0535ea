-- What the status of an answer tells: 6 of a file that isn't there, and 9 of bytes that are no trace.
use Rattle.mr_command.proofs.Common.{◌≡◌, ℕ, ◌≤◌, arith, List, [], ◌∷◌, ◌⊎◌, inl, inr, refl, Some, None, Option, Result, Ok, Err, Program, Contents, TextFault, Schedule, Read, Version, predicted, PlacedFault, schedule_fault, FormFault, faults_of, Format, Saying, Command, OfNumber, OfProgram, OfSchedule, OfTrace, Run, Answer, form_or, told, denoted, program_in, schedule_in, spelled, Ran, big_answer, big_schedule, listed, ran, reported, unless_broken, answer_of, races_in, read_report, report_under, run_answer, said, said_answer, shown, upgrade_answer, LacksFile, at_most_one, races_least, reported_least}
use Rattle.mr_grammar.specs.Parsing.{parsed}
use Rattle.mr_sched.specs.Reading.{Fault, schedule_of}
use Rattle.mr_event.specs.declared.footprint.Pair.{Pair}
use Rattle.mr_answer.specs.AutoDrawing.{drawn_schedule}
use Rattle.mr_gen.specs.Generated.{generated}
use Rattle.mr_trace.specs.Reading.{Place, races_of}
use Rattle.mr_command.specs.declared.command.Saying.TheVariants as saying

-- THE STATUS of what is said of a program that breaks no rule
pub said_least : (what : Saying) (p : Program) → (said what p).status ≤ 1
said_least saying.Canonical p = omega arith
said_least (saying.Drawn number most) p =
    let r = ran p (drawn_schedule p number most) in
    let least = at_most_one r.config.verdict (predicted r.steps) in omega (arith, least)

big_least : (number : ℕ) → (big_answer number).status ≤ 1
big_least number =
    let r = ran (generated number) (big_schedule number) in
    let least = at_most_one r.config.verdict (predicted r.steps) in omega (arith, least)

-- at most 5, or 6 where a file is lacking
abbrev SixIf : Type 0 → ℕ → Type 0
SixIf lacking status = (status ≤ 5) ⊎ ((status ≡ 6) × lacking)

module _ (lacking : Type 0) where
  form_six : (p : Program) (faults : List FormFault) (a : Answer) → SixIf lacking a.status → SixIf lacking (form_or p faults a).status
  form_six p [] a h = h
  form_six p (f ∷ faults) a h = inl (omega arith)

  denoted_six : (say : Program → Answer) → ((p : Program) → SixIf lacking (say p).status) → (r : Result Program TextFault) → SixIf lacking (told say (denoted r)).status
  denoted_six say h (Ok p) = h p
  denoted_six say h (Err f) = inl (omega arith)

  said_six : (what : Saying) (p : Program) → SixIf lacking (said_answer what p).status
  said_six what p = form_six p (faults_of p) (said what p) (inl (let least = said_least what p in omega (arith, least)))

  legal_six : (format : Format) (p : Program) (v : Version) (w : Schedule) (f : Option PlacedFault) (r : Ran) → SixIf lacking (told (reported format p v w) (unless_broken v w f r)).status
  legal_six format p v w None r = inl (let least = reported_least format p v w r in omega (arith, least))
  legal_six format p v w (Some f) r = inl (omega arith)

  read_six : (format : Format) (p : Program) (r : Result Read Fault) → SixIf lacking (told (read_report format p) (spelled r)).status
  read_six format p (Ok x) = legal_six format p x.version x.schedule (schedule_fault p x.schedule) (ran p x.schedule)
  read_six format p (Err f) = inl (omega arith)

  upgrade_six : (r : Result Read Fault) → SixIf lacking (told upgrade_answer (spelled r)).status
  upgrade_six (Ok x) = inl (omega arith)
  upgrade_six (Err f) = inl (omega arith)

report_six : (format : Format) (p : Program) (file : Option (List ℕ)) → SixIf (file ≡ None) (report_under format file p).status
report_six format p None = inr (refl, refl)
report_six format p (Some bytes) = read_six (Some bytes ≡ None) format p (schedule_of bytes)

run_six : (format : Format) (file : Option (List ℕ)) (p : Program) → SixIf (file ≡ None) (run_answer format file p).status
run_six format file p = form_six (file ≡ None) p (faults_of p) (report_under format file p) (report_six format p file)

-- 6 where a file isn't there, 9 to `offline` alone, and else at most 5
abbrev StatusTells : Contents → Option Command → ℕ → Type 0
StatusTells files command status =
    SixIf (LacksFile files command) status ⊎ ((status ≡ 9) × ((trace : List ℕ) × (command ≡ Some (OfTrace trace))))

module _ (files : Contents) where
  run_tells : (format : Format) (program schedule : List ℕ) (file : Option (List ℕ)) → files program ≡ file
      → SixIf (LacksFile files (Some (Run format program schedule))) (told (run_answer format (files schedule)) (program_in file)).status
  run_tells format program schedule None e = inr (refl, inl (program, inr (format, schedule, refl), e))
  run_tells format program schedule (Some bytes) e =
      elim (denoted_six (files schedule ≡ None) (run_answer format (files schedule)) (run_six format (files schedule)) (parsed bytes)) [
        | inl small ↦ inl small
        | inr six ↦ inr (six.0, inr (inl (schedule, inr (format, program, refl), six.1)))
      ]

  program_tells : (what : Saying) (program : List ℕ) (file : Option (List ℕ)) → files program ≡ file
      → SixIf (LacksFile files (Some (OfProgram what program))) (told (said_answer what) (program_in file)).status
  program_tells what program None e = inr (refl, inl (program, inl (what, refl), e))
  program_tells what program (Some bytes) e =
      let lacking = LacksFile files (Some (OfProgram what program)) in denoted_six lacking (said_answer what) (said_six lacking what) (parsed bytes)

  schedule_tells : (schedule : List ℕ) (file : Option (List ℕ)) → files schedule ≡ file
      → SixIf (LacksFile files (Some (OfSchedule schedule))) (told upgrade_answer (schedule_in file)).status
  schedule_tells schedule None e = inr (refl, inr (inl (schedule, inl refl, e)))
  schedule_tells schedule (Some bytes) e = upgrade_six (LacksFile files (Some (OfSchedule schedule))) (schedule_of bytes)

  listed_tells : (trace : List ℕ) (r : Result (List Pair) Place) → StatusTells files (Some (OfTrace trace)) (told listed (shown r)).status
  listed_tells trace (Ok races) = inl (inl (let least = races_least races in omega (arith, least)))
  listed_tells trace (Err f) = inr (refl, (trace, refl))

  trace_tells : (trace : List ℕ) (file : Option (List ℕ)) → files trace ≡ file → StatusTells files (Some (OfTrace trace)) (told listed (races_in file)).status
  trace_tells trace None e = inl (inr (refl, inr (inr (trace, refl, e))))
  trace_tells trace (Some bytes) e = listed_tells trace (races_of bytes)

  status_tells : (command : Option Command) → StatusTells files command (answer_of files command).status
  status_tells None = inl (inl (omega arith))
  status_tells (Some (Run format program schedule)) = inl (run_tells format program schedule (files program) refl)
  status_tells (Some (OfProgram what program)) = inl (program_tells what program (files program) refl)
  status_tells (Some (OfSchedule schedule)) = inl (schedule_tells schedule (files schedule) refl)
  status_tells (Some (OfTrace trace)) = trace_tells trace (files trace) refl
  status_tells (Some (OfNumber number)) = inl (inl (let least = big_least number in omega (arith, least)))

  pub lacks : (command : Option Command) → (answer_of files command).status ≡ 6 → LacksFile files command
  lacks command s = go (status_tells command)
    where
      go : StatusTells files command (answer_of files command).status → LacksFile files command
      go (inl (inl small)) = absurd (omega (arith, s, small))
      go (inl (inr (six, lacking))) = lacking
      go (inr (nine, offline)) = absurd (omega (arith, s, nine))

  pub only_offline : (command : Option Command) → (answer_of files command).status ≡ 9 → (trace : List ℕ) × (command ≡ Some (OfTrace trace))
  only_offline command s = go (status_tells command)
    where
      go : StatusTells files command (answer_of files command).status → (trace : List ℕ) × (command ≡ Some (OfTrace trace))
      go (inl (inl small)) = absurd (omega (arith, s, small))
      go (inl (inr (six, lacking))) = absurd (omega (arith, s, six))
      go (inr (nine, offline)) = offline
