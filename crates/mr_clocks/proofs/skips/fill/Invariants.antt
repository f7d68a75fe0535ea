use Rattle.mr_clocks.proofs.Common.{◌≡◌, ℕ, List, vec_len, vec_capacity, Footprint, Link, AreSkips}
use Rattle.mr_clocks.proofs.skips.fill.Given as goal

abbrev pub invariant-loop-k : goal.invariant-loop-k
invariant-loop-k l =
    record {
      each : (run : List Footprint) (n : ℕ) (links : List Link) → AreSkips run n links l.initial.skips.items → AreSkips run n links l.skips.items;
      count : vec_len l.skips ≡ l.k;
      room : vec_capacity l.skips ≡ vec_capacity l.initial.skips;
    }
