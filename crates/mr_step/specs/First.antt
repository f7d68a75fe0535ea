-- Where a machine stands before the first entry.
use Rattle.std.specs.Prelude.{ℕ, [], ◌∷◌, None, Some}
use Rattle.mr_base.specs.declared.reason.Verdict.TheVariants.{Running}
use Rattle.mr_base.specs.declared.thread.Status.TheVariants.{Enabled}
use Rattle.mr_mem.specs.Memory.{Memory}
use Rattle.mr_plan.specs.Machine.{thread_of}
use Rattle.mr_plan.specs.Runs.{Config}
use Rattle.mr_frame.specs.declared.stack.Stack.{Stack as KeptStack}
use Rattle.mr_frame.specs.Kept.{stack_of}
use Rattle.mr_exchange.specs.StartSteps.{Own}
use Rattle.mr_turn.specs.Began.{StartFault}
use Rattle.mr_turn.specs.Began as refused
use Rattle.mr_step.specs.declared.fault.StepFault.{StepFault}
use Rattle.mr_step.specs.declared.fault.StepFault.TheVariants as answer

-- thread 0 alone, with this stack, which has made so many allocations
abbrev pub first_config : Memory → KeptStack → ℕ → Config Own
first_config m s count = record {
  state = Some (record {
    shared = record { memory = m; statuses = Enabled ∷ []; holders = [] };
    threads = thread_of (record { thread = 0; stack = stack_of s }) count ∷ [];
  });
  output = [];
  last = None;
  completed = 0;
  verdict = Running;
  about = None;
}

-- why there is no machine
abbrev pub unmade_by : StartFault → StepFault
unmade_by (refused.Broken e) = answer.BadEntry e.code e.earlier
unmade_by refused.Memory = answer.Memory
