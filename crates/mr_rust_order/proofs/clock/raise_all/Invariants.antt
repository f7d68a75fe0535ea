use Rattle.mr_rust_order.proofs.Common.{◌≡◌, ℕ, ◌<◌, ◌≤◌, max, length, slice_index}
use Rattle.mr_rust_order.proofs.clock.raise_all.Given as goal

abbrev pub invariant-loop-t : goal.invariant-loop-t
invariant-loop-t l =
    record {
      wide : length l.others ≤ length l.times;
      done : (u : ℕ) → u < l.t → slice_index l.times u ≡ max (slice_index l.initial.times u) (slice_index l.others u);
      left : (u : ℕ) → l.t ≤ u → slice_index l.times u ≡ slice_index l.initial.times u;
    }
