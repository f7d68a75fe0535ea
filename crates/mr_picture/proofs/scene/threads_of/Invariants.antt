use Rattle.mr_picture.proofs.Common.{◌≡◌, ◌-◌, ◌≤◌, filter, range_with_len, takes_one}
use Rattle.mr_picture.proofs.scene.threads_of.Given as goal

-- those before this one are there
abbrev pub invariant-loop-thread : goal.invariant-loop-thread
invariant-loop-thread l = record {
  few : l.thread ≤ 1024;
  made : l.threads.items ≡ filter (takes_one l.steps) (range_with_len 0 (l.thread - 0));
}
