use Rattle.mr_clocks.proofs.Common.{◌≡◌, ℕ, IsFalse, IsPart, IsUnder, AreSkips}
use Rattle.mr_clocks.proofs.made.walk_falling.Given as goal

abbrev pub invariant-loop-k : goal.invariant-loop-k
invariant-loop-k l =
    record {
      part : IsPart l.run l.clock l.j;
      kept : (m : ℕ) → IsUnder l.run l.initial.clock m → IsUnder l.run l.clock m;
      same : IsFalse l.changed → l.clock ≡ l.initial.clock;
      left : AreSkips l.run l.j l.links l.left.items;
    }
