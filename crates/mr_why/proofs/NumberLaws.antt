-- Each rule and each reason is found by its number. This file is made of docs/CODES.md by .ci/codes.py.
use Rattle.std.specs.Prelude.{◌≡◌, Some}
use Rattle.std.proofs.Common.{refl}
use Rattle.mr_lex.specs.declared.rule.TextRule.{TextRule}
use Rattle.mr_lex.specs.declared.rule.TextRule.TheVariants as text
use Rattle.mr_ast.specs.declared.rule.Rule.{Rule}
use Rattle.mr_ast.specs.declared.rule.Rule.TheVariants as program
use Rattle.mr_sched.specs.declared.rule.ScheduleRule.{ScheduleRule}
use Rattle.mr_sched.specs.declared.rule.ScheduleRule.TheVariants as schedule
use Rattle.mr_base.specs.declared.trace_rule.TraceRule.{TraceRule}
use Rattle.mr_base.specs.declared.trace_rule.TraceRule.TheVariants as trace
use Rattle.mr_base.specs.declared.reason.Reason.{Reason}
use Rattle.mr_base.specs.declared.reason.Reason.TheVariants as reason
use Rattle.mr_why.specs.declared.subject.Subject.{Subject}
use Rattle.mr_why.specs.declared.subject.Subject.TheVariants as subject
use Rattle.mr_why.specs.Why.{number_of, subject_of}

abbrev IsFound : Subject → Type 0
IsFound s = subject_of (number_of s) ≡ Some s

text_found : (it : TextRule) → IsFound (subject.Text it)
unfolding subject_of
text_found text.BadByte = refl
text_found text.BadNumber = refl
text_found text.LongText = refl
text_found text.Unexpected = refl
text_found text.UnknownName = refl
text_found text.DoubleName = refl
text_found text.TooDeep = refl
text_found text.TooMany = refl
text_found text.Exposed = refl

program_found : (it : Rule) → IsFound (subject.Form it)
unfolding subject_of
program_found program.TypeSize = refl
program_found program.TypeAlign = refl
program_found program.FieldOutside = refl
program_found program.FieldOverlap = refl
program_found program.SizeMultiple = refl
program_found program.EnumVariant = refl
program_found program.EnumTag = refl
program_found program.EnumTree = refl
program_found program.UnionChunk = refl
program_found program.Arguments = refl
program_found program.FirstBlock = refl
program_found program.BlockKind = refl
program_found program.Place = refl
program_found program.Operand = refl
program_found program.ConstRange = refl
program_found program.Assign = refl
program_found program.Discriminant = refl
program_found program.LiveLocal = refl
program_found program.Switch = refl
program_found program.Callee = refl
program_found program.Intrinsic = refl
program_found program.Payload = refl
program_found program.GlobalRef = refl
program_found program.GlobalForm = refl
program_found program.MainForm = refl
program_found program.Aggregate = refl
program_found program.Cast = refl

schedule_found : (it : ScheduleRule) → IsFound (subject.Schedule it)
unfolding subject_of
schedule_found schedule.BadHeader = refl
schedule_found schedule.BadLine = refl
schedule_found schedule.TooLong = refl
schedule_found schedule.NotEnabled = refl
schedule_found schedule.MissingPick = refl
schedule_found schedule.ExtraPick = refl
schedule_found schedule.BadAddress = refl
schedule_found schedule.Reused = refl
schedule_found schedule.NotWaiting = refl
schedule_found schedule.AfterStop = refl
schedule_found schedule.TooManyThreads = refl
schedule_found schedule.TooManyLocks = refl

trace_found : (it : TraceRule) → IsFound (subject.Trace it)
unfolding subject_of
trace_found trace.BadMagic = refl
trace_found trace.BadField = refl
trace_found trace.Truncated = refl
trace_found trace.Trailing = refl
trace_found trace.TooLong = refl

reason_found : (it : Reason) → IsFound (subject.Undefined it)
unfolding subject_of
reason_found reason.DataRace = refl
reason_found reason.Unreachable = refl
reason_found reason.DeadLocal = refl
reason_found reason.Misaligned = refl
reason_found reason.NoProvenance = refl
reason_found reason.DeadAllocation = refl
reason_found reason.OutOfBounds = refl
reason_found reason.InvalidValue = refl
reason_found reason.DanglingReference = refl
reason_found reason.Overflow = refl
reason_found reason.ZeroDivisor = refl
reason_found reason.DivOverflow = refl
reason_found reason.ShiftAmount = refl
reason_found reason.OffsetOverflow = refl
reason_found reason.IndexOutOfRange = refl
reason_found reason.InvalidDiscriminant = refl
reason_found reason.TransmuteInvalid = refl
reason_found reason.NotAFunction = refl
reason_found reason.SignatureMismatch = refl
reason_found reason.NoReturnBlock = refl
reason_found reason.MainReturned = refl
reason_found reason.NoUnwindBlock = refl
reason_found reason.UnwoundThread = refl
reason_found reason.NoPayload = refl
reason_found reason.AssumeFalse = refl
reason_found reason.SizeTooLarge = refl
reason_found reason.BadAlign = refl
reason_found reason.FreeAddress = refl
reason_found reason.FreeKind = refl
reason_found reason.FreeSize = refl
reason_found reason.FreeAlign = refl
reason_found reason.UnknownThread = refl
reason_found reason.UnknownLock = refl
reason_found reason.NotHolder = refl

pub number_found : (s : Subject) → IsFound s
number_found (subject.Text it) = text_found it
number_found (subject.Form it) = program_found it
number_found (subject.Schedule it) = schedule_found it
number_found (subject.Trace it) = trace_found it
number_found (subject.Undefined it) = reason_found it
