-- Why there is no report of a run.
use Rattle.mr_sched.specs.declared.schedule.Schedule.{Schedule}
use Rattle.mr_sched.specs.declared.version.Version.{Version}
use Rattle.mr_run.specs.declared.fault.RunFault.{RunFault}
use Rattle.mr_run.specs.declared.fault.RunFault.TheVariants.{Broken, Memory}
use Rattle.mr_input.specs.declared.refusal.Refusal.{Refusal}
use Rattle.mr_input.specs.declared.refusal.Refusal.TheVariants as refusal
use Rattle.mr_answer.specs.Answers.{line_at}

-- the rule that a schedule breaks, on the line of its place in the text; or want of memory
abbrev pub refusal_by : Version → Schedule → RunFault → Refusal
refusal_by v w (Broken place code earlier) = refusal.Schedule (line_at v w place) code earlier
refusal_by v w Memory = refusal.Memory
