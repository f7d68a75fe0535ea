use Rattle.mr_clocks.proofs.Common.{ℕ, List, vec_len, Footprint, Link, AreSkips}
use Rattle.mr_clocks.proofs.skips.store_each.Given as goal

abbrev pub invariant-loop-skip : goal.invariant-loop-skip
invariant-loop-skip l =
    (run : List Footprint) (n : ℕ) (links : List Link) → AreSkips run n links l.initial.skips.items → AreSkips run n links l.initial.left.items
    → AreSkips run n links l.skips.items × AreSkips run n links l.left.items

abbrev pub decreases-loop-skip : goal.decreases-loop-skip
decreases-loop-skip l = vec_len l.left
