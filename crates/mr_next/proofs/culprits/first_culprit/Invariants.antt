use Rattle.mr_next.proofs.Common.{◌≡◌, ◌+◌, ◌-◌, length, find, range_with_len, breaks_with}
use Rattle.mr_next.proofs.culprits.first_culprit.Given as goal

-- none so far
abbrev pub invariant-loop-at : goal.invariant-loop-at
invariant-loop-at l = record {
  same : l.machine ≡ l.initial.machine;
  rest :
      find (λ k. breaks_with l.initial.machine.look l.initial.machine.config l.entry l.code (k + 1)) (range_with_len 0 (length l.entry.picks))
      ≡ find (λ k. breaks_with l.initial.machine.look l.initial.machine.config l.entry l.code (k + 1)) (range_with_len l.at (length l.entry.picks - l.at));
}
