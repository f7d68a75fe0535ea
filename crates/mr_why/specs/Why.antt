-- The entry of a code, and how it is written.
use Rattle.std.specs.Prelude.{ℕ, nat_lt, if◌then◌else◌, List, [], ◌++◌, codes, decimal, Option}
use Rattle.std.specs.Option.{option_map}
use Rattle.mr_ast.specs.FormRules as form
use Rattle.mr_base.specs.Reasons.{code_of, name_of}
use Rattle.mr_base.specs.declared.reason.Reason.{Reason}
use Rattle.mr_lex.specs.Rules as text
use Rattle.mr_sched.specs.Rules as schedule
use Rattle.mr_base.specs.TraceRules as trace
use Rattle.mr_why.specs.declared.subject.Subject.{Subject}
use Rattle.mr_why.specs.declared.subject.Subject.TheVariants as subject
use Rattle.mr_why.specs.declared.said.Why.{Why}
use Rattle.mr_why.specs.Programs.{said_of_program}
use Rattle.mr_why.specs.Reasons.{reason_of, said_of_reason}
use Rattle.mr_why.specs.Schedules.{said_of_schedule}
use Rattle.mr_why.specs.Texts.{said_of_text}
use Rattle.mr_why.specs.Traces.{said_of_trace}
use Rattle.mr_why.specs.Words.{Words, words_of}

-- ---- numbers

-- the number of a rule or a reason
abbrev pub number_of : Subject → ℕ
number_of (subject.Text rule) = text.code_of rule
number_of (subject.Form rule) = form.code_of rule
number_of (subject.Schedule rule) = schedule.code_of rule
number_of (subject.Trace rule) = trace.code_of rule
number_of (subject.Undefined why) = code_of why

-- the rule of a number of each kind, and the reason
abbrev pub text_of : ℕ → Option Subject
text_of code = option_map subject.Text (text.rule_of code)

abbrev pub form_of : ℕ → Option Subject
form_of code = option_map subject.Form (form.rule_of code)

abbrev pub schedule_of : ℕ → Option Subject
schedule_of code = option_map subject.Schedule (schedule.rule_of code)

abbrev pub trace_of : ℕ → Option Subject
trace_of code = option_map subject.Trace (trace.rule_of code)

abbrev pub undefined_of : ℕ → Option Subject
undefined_of code = option_map subject.Undefined (reason_of code)

-- THE RULE OR THE REASON OF A NUMBER, where there is one: of texts below 20, of programs below 50, of schedules below
-- 70, of traces below 100, and of undefined behaviour from 100 on
unfoldable pub subject_of : ℕ → Option Subject
subject_of code =
    if nat_lt code 20 then text_of code
    else if nat_lt code 50 then form_of code
    else if nat_lt code 70 then schedule_of code
    else if nat_lt code 100 then trace_of code
    else undefined_of code

-- ---- entries

-- its name
abbrev pub name_by : Subject → List ℕ
name_by (subject.Text rule) = text.name_of rule
name_by (subject.Form rule) = form.name_of rule
name_by (subject.Schedule rule) = schedule.name_of rule
name_by (subject.Trace rule) = trace.name_of rule
name_by (subject.Undefined why) = name_of why

-- what is said of it
unfoldable pub said_of : Subject → Words
said_of (subject.Text rule) = said_of_text rule
said_of (subject.Form rule) = said_of_program rule
said_of (subject.Schedule rule) = said_of_schedule rule
said_of (subject.Trace rule) = said_of_trace rule
said_of (subject.Undefined why) = said_of_reason why

-- AN ENTRY: a code, its name, and what is said of it
pub record Entry : Type 0 where
  pub code : ℕ
  pub name : List ℕ
  pub words : Words

-- the entry of a rule or a reason
abbrev pub entry_at : ℕ → Subject → Entry
entry_at code s = record { code = code; name = name_by s; words = said_of s }

-- the entry of a code, where it is one
abbrev pub entry_of : ℕ → Option Entry
entry_of code = option_map (entry_at code) (subject_of code)

-- an entry, as the code lends it
abbrev pub entry_in : Why → Entry
entry_in w = record { code = w.code; name = w.name.now; words = words_of w.said }

-- ---- how it is written

-- a line of a word and a text
abbrev pub named_line : List ℕ → List ℕ → List ℕ
named_line word text = word ++ text ++ codes "\n"

-- a code and a blank
abbrev pub code_word : ℕ → List ℕ
code_word code = decimal code ++ codes " "

-- the lines of what is said
abbrev pub words_text : Words → List ℕ
words_text w =
    named_line [] w.what ++ named_line (codes "usual cause: ") w.cause ++ named_line (codes "what to do: ") w.next
    ++ named_line (codes "example: ") w.example

-- AN ENTRY, as it is written: its code and its name, what it says, what usually causes it, what to do next, and an
-- example
abbrev pub entry_text : Entry → List ℕ
entry_text e = code_word e.code ++ named_line [] e.name ++ words_text e.words
