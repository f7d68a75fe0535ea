use Rattle.mr_sched.proofs.Common.{◌≡◌, ◌+◌, ◌^◌, ◌≤◌, [], length, entries_from, parts_at}
use Rattle.mr_sched.proofs.reading.read_entries.Given as goal

abbrev pub invariant-loop-rest : goal.invariant-loop-rest
invariant-loop-rest l = record {
  so_far : entries_from l.v l.entries l.line (parts_at 10 l.rest) ≡ entries_from l.v [] 3 (parts_at 10 l.text);
  count : length l.entries ≤ 2 ^ 22;
  line : l.line ≤ length l.entries + 3;
}

abbrev pub decreases-loop-rest : goal.decreases-loop-rest
decreases-loop-rest l = length l.rest
