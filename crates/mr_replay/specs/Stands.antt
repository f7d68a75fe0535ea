-- Where the threads of the steps of a run stood.
use Rattle.std.specs.Prelude.{List, Option, map}
use Rattle.mr_ast.specs.declared.program.Program.{Program}
use Rattle.mr_sched.specs.declared.schedule.Schedule.{Schedule}
use Rattle.mr_labels.specs.declared.step.Stand.{Stand}
use Rattle.mr_labels.specs.declared.step.ToldStep.{ToldStep}
use Rattle.mr_replay.specs.Told.{told_steps}

-- where the thread of a step stood before it
abbrev pub stand_before : ToldStep → Option Stand
stand_before told = told.before

-- WHERE THE THREAD OF EACH STEP of a run STOOD before it, in the order of the steps
abbrev pub stands_of : Program → Schedule → List (Option Stand)
stands_of p w = map stand_before (told_steps p w)
