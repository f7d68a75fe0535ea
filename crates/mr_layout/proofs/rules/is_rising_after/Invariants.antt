use Rattle.mr_layout.proofs.Common.{◌≡◌, drop, is_rising_after}
use Rattle.mr_layout.proofs.rules.is_rising_after.Given as goal

abbrev pub invariant-loop-chunk : goal.invariant-loop-chunk
invariant-loop-chunk l = is_rising_after l.fn.start l.chunks ≡ is_rising_after l.at (drop l.chunk-index l.chunks)
