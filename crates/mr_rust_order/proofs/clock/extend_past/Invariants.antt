use Rattle.mr_rust_order.proofs.Common.{◌≡◌, ℕ, ◌+◌, ◌≤◌, length, slice_index}
use Rattle.std.proofs.Common.{vec_len}
use Rattle.std.specs.Prelude.{vec_capacity}
use Rattle.mr_rust_order.proofs.clock.extend_past.Given as goal

abbrev pub invariant-loop-k : goal.invariant-loop-k
invariant-loop-k l =
    record {
      room : vec_len l.initial.times + l.missing ≤ vec_capacity l.times;
      long : length l.times.items ≡ length l.initial.times.items + l.k;
      same : (t : ℕ) → slice_index l.times.items t ≡ slice_index l.initial.times.items t;
    }
