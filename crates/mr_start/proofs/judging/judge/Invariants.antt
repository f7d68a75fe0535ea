use Rattle.mr_start.proofs.Common.{◌≡◌, ◌≤◌, length, take, drop, ranges_of, picks_fault}
use Rattle.mr_start.proofs.PickLaws.{fault_behind}
use Rattle.mr_start.proofs.judging.judge.Given as goal

-- the picks so far break no rule
abbrev pub invariant-loop-i : goal.invariant-loop-i
invariant-loop-i l = record {
  few : l.i ≤ length l.picks;
  left : picks_fault l.sync.statuses (ranges_of l.memory) l.thread l.count l.asks l.picks
      ≡ fault_behind l.sync.statuses l.memory l.thread l.count (take l.i l.asks) (take l.i l.picks) (drop l.i l.asks) (drop l.i l.picks);
}
