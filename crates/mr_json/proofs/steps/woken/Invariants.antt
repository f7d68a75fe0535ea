use Rattle.std.specs.Prelude.{◌≡◌, map, take}
use Rattle.serde_json.specs.View.{view}
use Rattle.mr_json.specs.Steps.{thread_data}
use Rattle.mr_json.proofs.steps.woken.Given as goal

-- the threads before this one have their values
abbrev pub invariant-loop-thread : goal.invariant-loop-thread
invariant-loop-thread l = map view l.list.items ≡ map thread_data (take l.thread-index l.woken)
