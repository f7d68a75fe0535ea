-- What `check` answers: a text and a status, by the bytes of the files alone.
use Rattle.std.specs.Prelude.{◌≡◌, ◌≤◌, ◌⊎◌, ℕ, List, [], ◌∷◌, ◌++◌, codes, length, Option, None, Some, Result, Ok, Err}
use Rattle.mr_ast.specs.declared.program.Program.{Program}
use Rattle.mr_lex.specs.declared.token.TextFault.{TextFault}
use Rattle.mr_parse.specs.GrammarParsing.{parsed}
use Rattle.mr_typing.specs.declared.fault.FormFault.{FormFault}
use Rattle.mr_typing.specs.Walk.{faults_of}
use Rattle.mr_sched.specs.declared.schedule.Schedule.{Schedule}
use Rattle.mr_sched.specs.declared.version.Read.{Read}
use Rattle.mr_sched.specs.declared.version.Version.{Version}
use Rattle.mr_sched.specs.Reading.{schedule_of}
use Rattle.mr_sched.specs.Reading as sched
use Rattle.mr_run.specs.StepPlanLegal.{Fault}
use Rattle.mr_run.specs.StartRuns.{PlacedFault, schedule_fault}
use Rattle.mr_run.specs.StartStart.{start_fault}
use Rattle.mr_input.specs.Answer.{Answer, seen}
use Rattle.mr_refusals.specs.declared.checking.Reading.{Reading}
use Rattle.mr_refusals.specs.declared.checking.Reading.TheVariants as reading
use Rattle.mr_refusals.specs.Forms.{form_told}
use Rattle.mr_refusals.specs.Heads.{marked_text}
use Rattle.mr_refusals.specs.Schedules.{legal_line, rule_told}
use Rattle.mr_refusals.specs.Texts.{text_told}

-- ---- programs

-- the first fault of a text
abbrev pub text_answer : List ℕ → List ℕ → TextFault → Answer
text_answer file text f = record { text = text_told file text f; status = 3 }

-- a rule that a program breaks
abbrev pub form_answer : List ℕ → List ℕ → Program → FormFault → Answer
form_answer file text p f = record { text = form_told file text p f; status = 4 }

-- the first of these, or what is said where there is none
abbrev pub faults_answer : List ℕ → List ℕ → Program → List FormFault → Answer → Answer
faults_answer file text p [] good = good
faults_answer file text p (f ∷ fs) good = form_answer file text p f

-- what is said of the program that a text denotes, where it breaks no rule, and else what refuses it
abbrev pub read_answer : (Program → Answer) → List ℕ → List ℕ → Result Program TextFault → Answer
read_answer say file text (Ok p) = faults_answer file text p (faults_of p) (say p)
read_answer say file text (Err f) = text_answer file text f

abbrev pub answer_by : (Program → Answer) → List ℕ → List ℕ → Answer
answer_by say file text = read_answer say file text (parsed text)

-- a program that breaks no rule
abbrev pub well_formed : List ℕ → Answer
well_formed file = record { text = file ++ codes ": well-formed\n"; status = 0 }

-- WHAT IS SAID OF A PROGRAM by its text alone
abbrev pub program_answer : List ℕ → List ℕ → Answer
program_answer file text = answer_by (λ p. well_formed file) file text

-- ---- schedules

-- a rule that is broken on a line of a schedule's text
abbrev pub line_answer : List ℕ → List ℕ → ℕ → ℕ → Answer
line_answer file text line code = record { text = marked_text file text line 1 code; status = 5 }

-- the first rule that entries break, if they break one
abbrev pub entries_answer : List ℕ → List ℕ → Program → Version → Schedule → Option PlacedFault → Answer
entries_answer file text p v w None = record { text = legal_line file (length w.entries); status = 0 }
entries_answer file text p v w (Some f) = record { text = rule_told file text p v w f; status = 5 }

-- the same, or the rule that the start line breaks, which is line 2
abbrev pub start_answer : List ℕ → List ℕ → Program → Version → Schedule → Option Fault → Answer
start_answer file text p v w None = entries_answer file text p v w (schedule_fault p w)
start_answer file text p v w (Some f) = line_answer file text 2 f.code

-- the same of a schedule that was read, or the first fault of its text
abbrev pub spelled_answer : List ℕ → List ℕ → Program → Result Read sched.Fault → Answer
spelled_answer file text p (Ok r) = start_answer file text p r.version r.schedule (start_fault p r.schedule.start)
spelled_answer file text p (Err f) = line_answer file text f.line f.code

-- WHAT IS SAID OF A SCHEDULE of a program
abbrev pub schedule_answer : List ℕ → List ℕ → List ℕ → List ℕ → Answer
schedule_answer program text file spelled =
    answer_by (λ p. spelled_answer file spelled p (schedule_of spelled)) program text

-- ---- how the code goes

-- the status of what is said: 0 where nothing is wrong, 3 of a text, 4 of a program, 5 of a schedule
abbrev pub IsStatus : ℕ → Type 0
IsStatus status = (status ≡ 0) ⊎ ((3 ≤ status) × (status ≤ 5))

-- a program that breaks no rule, or what refuses it, whatever would be said of it
abbrev pub IsReading : List ℕ → List ℕ → Reading → Type 0
IsReading file text (reading.Well p) = (parsed text ≡ Ok p) × (faults_of p ≡ [])
IsReading file text (reading.Refused w) =
    ((say : Program → Answer) → seen w ≡ answer_by say file text) × IsStatus w.status
