use Rattle.mr_rust_order.proofs.Common.{◌≡◌, ℕ, length, clock_at}
use Rattle.mr_rust_order.proofs.channels.extend_past.Given as goal

abbrev pub invariant-loop-k : goal.invariant-loop-k
invariant-loop-k l =
    record {
      long : length l.clocks.items ≡ l.k;
      same : (y : ℕ) → clock_at l.clocks.items y ≡ clock_at l.initial.clocks.items y;
    }
