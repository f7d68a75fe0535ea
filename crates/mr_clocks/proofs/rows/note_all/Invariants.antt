use Rattle.mr_clocks.proofs.Common.{◌≡◌, ℕ, ◌+◌, ◌<◌, slice_index, vec_len, vec_capacity, AreLonger, ArePartly, HaveKeysOf, IsKept, row_at}
use Rattle.mr_clocks.proofs.rows.note_all.Given as goal

abbrev pub invariant-loop-y : goal.invariant-loop-y
invariant-loop-y l =
    record {
      partly : ArePartly l.run l.j l.rows.items l.links.items;
      keys : HaveKeysOf l.initial.rows.items l.rows.items;
      noted : (z : ℕ) → z < l.y → IsKept l.links.items (row_at l.rows.items (slice_index l.places z)).last l.j;
      longer : AreLonger l.initial.links.items l.links.items;
      long : vec_len l.links ≡ vec_len l.initial.links + l.y;
      room : vec_capacity l.links ≡ vec_capacity l.initial.links;
    }
