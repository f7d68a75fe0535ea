-- What an undefined run speaks of.
use Rattle.std.specs.Prelude.{Option}
use Rattle.mr_ast.specs.declared.program.Program.{Program}
use Rattle.mr_base.specs.declared.reached.Reached.{Reached}
use Rattle.mr_sched.specs.declared.schedule.Schedule.{Schedule}
use Rattle.mr_step.specs.StartRuns.{run_of}

-- WHAT THE RUN of a program under a schedule SPEAKS OF, where its last step is undefined for a reason that does: the
-- bytes that this step wanted
abbrev pub spoken_of : Program → Schedule → Option Reached
spoken_of p w = (run_of p w).about
