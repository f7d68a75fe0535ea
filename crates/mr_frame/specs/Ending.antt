-- What the ends of functions come to, by their parts, and what their code finds.
use Rattle.std.specs.Prelude.{List, Option}
use Rattle.mr_ast.specs.declared.program.Local.{Local}
use Rattle.mr_ast.specs.declared.types.Ty.{Ty}
use Rattle.mr_base.specs.declared.byte.Pointer.{Pointer}
use Rattle.mr_mem.specs.Memory.{Memory}
use Rattle.mr_value.specs.declared.val.Val.{Val}
use Rattle.mr_ast.specs.declared.program.Function.{Function}
use Rattle.mr_base.specs.Script.{Outcome, run}
use Rattle.mr_eval.specs.MemoryQueries.{memory_answer}
use Rattle.mr_eval.specs.Reads.{Seen, reading}
use Rattle.mr_eval.specs.World.{World}
use Rattle.mr_frame.specs.declared.ends.Targets.{Targets as KeptTargets}
use Rattle.mr_frame.specs.Calls.{Targets, free_each, leave, return_value}
use Rattle.mr_frame.specs.Frames.{Frame, Look, Onward, Stack}

-- the storage of each local freed
unfoldable pub freed_each : List Local → List (Option Pointer) → World → Outcome (Unit {0}) World
freed_each locals storage w = run memory_answer (free_each locals storage) w

-- the value of the return local
unfoldable pub returned : Memory → Function → Frame → Seen → Outcome Val Seen
returned m fn f seen = run (reading m) (return_value fn f) seen

-- behind the frees of a return with a value of a type, over the frames below
unfoldable pub left_by : Look → Stack → Option Ty → Val → List Frame → World → Outcome Onward World
left_by look s t v below w = run memory_answer (leave look s t v below) w

-- the targets of a call, as the code finds them
abbrev pub found_targets : KeptTargets → Targets
found_targets t = record { next = t.next; unwind = t.unwind }
