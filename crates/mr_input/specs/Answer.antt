-- An answer: a text and a status; and when the result of a function tells it.
use Rattle.std.specs.Prelude.{ℕ, List, [], ◌∷◌, Result, Ok, Err, ◌≡◌, ◌≤◌, ◌⊎◌}
use Rattle.mr_ast.specs.declared.program.Program.{Program}
use Rattle.mr_typing.specs.declared.fault.FormFault.{FormFault}
use Rattle.mr_input.specs.declared.refusal.Refusal.{Refusal}
use Rattle.mr_input.specs.declared.refusal.Refusal.TheVariants as refusal
use Rattle.mr_input.specs.Form.{form_line}
use Rattle.mr_input.specs.Refusals.{refusal_text, refusal_status}
use Rattle.mr_input.specs.declared.written.Written.{Written}

-- What is written, and the exit status.
pub record Answer : Type 0 where
  pub text : List ℕ
  pub status : ℕ

-- the line of a refusal, and its status
abbrev pub refused : Refusal → Answer
refused r = record { text = refusal_text r; status = refusal_status r }

-- what is said of what was found, or what refuses it
abbrev pub told : {A : Type 0} → (A → Answer) → Result A Refusal → Answer
told say (Ok x) = say x
told say (Err r) = refused r

-- the line of a rule that a program breaks
abbrev pub form_answer : Program → FormFault → Answer
form_answer p fault = record { text = form_line p fault; status = 4 }

-- the line of the first of these faults of a program, and what is said where there is none
abbrev pub form_or : Program → List FormFault → Answer → Answer
form_or p [] a = a
form_or p (fault ∷ faults) a = form_answer p fault

-- what is written, seen as an answer
abbrev pub seen : Written → Answer
seen a = record { text = a.text.items; status = a.status }

-- the status of a report, of a canonical text, or of a rule that a program breaks
abbrev pub IsStatus : ℕ → Type 0
IsStatus status = (status ≤ 1) ⊎ (status ≡ 4)

-- what was written, or want of memory
abbrev pub answered : {E : Type 0} → Result Written E → Result Written Refusal
answered (Ok a) = Ok a
answered (Err e) = Err refusal.Memory

-- What is written is the answer, or what refuses is; unless memory ran out.
abbrev pub Tells : Answer → Result Written Refusal → Type 0
Tells answer (Ok a) = seen a ≡ answer
Tells answer (Err refusal.Memory) = Unit {0}
Tells answer (Err refusal.ReadProgram) = answer ≡ refused refusal.ReadProgram
Tells answer (Err (refusal.Text at col code)) = answer ≡ refused (refusal.Text at col code)
Tells answer (Err refusal.ReadSchedule) = answer ≡ refused refusal.ReadSchedule
Tells answer (Err refusal.ReadTrace) = answer ≡ refused refusal.ReadTrace
Tells answer (Err (refusal.Trace at code)) = answer ≡ refused (refusal.Trace at code)
Tells answer (Err (refusal.Schedule at code earlier)) = answer ≡ refused (refusal.Schedule at code earlier)

-- or the read of the schedule failed
abbrev pub TellsOrUnread : Type 0 → Answer → Result Written Refusal → Type 0
TellsOrUnread rose answer result = Tells answer result ⊎ (rose × (result ≡ Err refusal.ReadSchedule))
