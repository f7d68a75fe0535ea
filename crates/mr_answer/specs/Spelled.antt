-- What an answer shows of the run whose footprints were written.
use Rattle.std.specs.Prelude.{Result, OnOk}
use Rattle.mr_ast.specs.declared.program.Program.{Program}
use Rattle.mr_sched.specs.declared.schedule.Schedule.{Schedule}
use Rattle.mr_step.specs.StartRuns.{steps_of}
use Rattle.mr_trace.specs.Spelling.{IsRun}
use Rattle.mr_input.specs.declared.written.Written.{Written}
use Rattle.mr_input.specs.declared.refusal.Refusal.{Refusal}
use Rattle.mr_answer.specs.declared.formats.Format.{Format}
use Rattle.mr_answer.specs.declared.formats.Format.TheVariants.{Footprints, Json, Short, Shuffled, Text}

-- where the footprints of a run were written, the run has a spelling of its own
abbrev pub IsSpelled : Format → Program → Schedule → Result Written Refusal → Type 0
IsSpelled Text p w result = Unit {0}
IsSpelled Json p w result = Unit {0}
IsSpelled Short p w result = Unit {0}
IsSpelled Footprints p w result = OnOk result (IsRun (steps_of p w))
IsSpelled (Shuffled number) p w result = Unit {0}
