use Rattle.mr_clocks.proofs.Common.{◌≡◌, ℕ, ◌+◌, ◌<◌, ◌≤◌, length, slice_index, vec_len, vec_capacity, IsKept, AreWakers}
use Rattle.mr_clocks.proofs.wakers.note_woken.Given as goal

abbrev pub invariant-loop-y : goal.invariant-loop-y
invariant-loop-y l =
    record {
      wakers : AreWakers l.run (l.j + 1) l.j l.wakers.heads.items l.wakers.links.items;
      own : (z : ℕ) → z < l.y → IsKept l.wakers.links.items (slice_index l.wakers.heads.items (slice_index l.threads z)) l.j;
      reach : length l.wakers.heads.items ≡ length l.initial.wakers.heads.items;
      more : vec_len l.wakers.links ≤ vec_len l.initial.wakers.links + l.y;
      room : vec_capacity l.wakers.links ≡ vec_capacity l.initial.wakers.links;
    }
