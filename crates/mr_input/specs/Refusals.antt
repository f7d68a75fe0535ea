-- What refuses a command: the line of each refusal, and its exit status.
use Rattle.std.specs.Prelude.{ℕ, List, [], ◌++◌, codes, decimal, Option, None, Some}
use Rattle.mr_base.specs.declared.byte.AllocId.{AllocId}
use Rattle.mr_report.specs.Report.{line}
use Rattle.mr_lex.specs.Rules as text
use Rattle.mr_sched.specs.Rules as schedule
use Rattle.mr_base.specs.declared.trace_rule.TraceRule.{TraceRule}
use Rattle.mr_base.specs.TraceRules as trace
use Rattle.mr_input.specs.declared.refusal.Refusal.{Refusal}
use Rattle.mr_input.specs.declared.refusal.Refusal.TheVariants as refusal

-- `text LINE COL CODE NAME`
abbrev pub text_line : ℕ → ℕ → ℕ → List ℕ → List ℕ
text_line at col code name =
    line (codes "text " ++ decimal at ++ codes " " ++ decimal col
    ++ codes " " ++ decimal code ++ codes " " ++ name)

-- the allocation whose range is overlapped
abbrev pub earlier_text : Option AllocId → List ℕ
earlier_text None = []
earlier_text (Some id) = codes " " ++ decimal id.thread ++ codes " " ++ decimal id.count

-- the name of a fault that bytes have
abbrev pub named_or : Option TraceRule → List ℕ
named_or None = []
named_or (Some r) = trace.name_of r

-- and of its code
abbrev pub trace_name : ℕ → List ℕ
trace_name code = named_or (trace.rule_of code)

-- `trace OFFSET CODE NAME`
abbrev pub trace_line : ℕ → ℕ → List ℕ
trace_line at code =
    line (codes "trace " ++ decimal at ++ codes " " ++ decimal code ++ codes " " ++ trace_name code)

-- the line of a refusal, and none for want of memory
abbrev pub refusal_text : Refusal → List ℕ
refusal_text refusal.ReadProgram = line (codes "read program")
refusal_text (refusal.Text at col code) = text_line at col code (text.name_by_code code)
refusal_text refusal.ReadSchedule = line (codes "read schedule")
refusal_text (refusal.Schedule at code earlier) =
    line (codes "schedule " ++ decimal at ++ codes " " ++ decimal code
    ++ codes " " ++ schedule.name_by_code code ++ earlier_text earlier)
refusal_text refusal.ReadTrace = line (codes "read trace")
refusal_text (refusal.Trace at code) = trace_line at code
refusal_text refusal.Memory = []

-- the exit status of a refusal
abbrev pub refusal_status : Refusal → ℕ
refusal_status refusal.ReadProgram = 6
refusal_status (refusal.Text at col code) = 3
refusal_status refusal.ReadSchedule = 6
refusal_status (refusal.Schedule at code earlier) = 5
refusal_status refusal.ReadTrace = 6
refusal_status (refusal.Trace at code) = 9
refusal_status refusal.Memory = 8
