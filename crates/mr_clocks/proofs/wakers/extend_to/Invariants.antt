use Rattle.mr_clocks.proofs.Common.{ℕ, ◌<◌, length, slice_index, AreExtended}
use Rattle.mr_clocks.proofs.wakers.extend_to.Given as goal

abbrev pub invariant-loop-y : goal.invariant-loop-y
invariant-loop-y l =
    record {
      kept : AreExtended l.initial.heads.items l.heads.items;
      reached : (z : ℕ) → z < l.y → slice_index l.threads z < length l.heads.items;
    }
