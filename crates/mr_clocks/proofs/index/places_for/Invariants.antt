use Rattle.mr_clocks.proofs.Common.{◌≡◌, ℕ, ◌<◌, get_or, length, slice_index, Key, AreMarked, IsGrown, IsRowFor}
use Rattle.mr_clocks.proofs.index.places_for.Given as goal

abbrev pub invariant-loop-i : goal.invariant-loop-i
invariant-loop-i l =
    record {
      marked : AreMarked l.index.shelves.items l.index.marks.keys l.rows.items;
      grown : IsGrown l.initial.rows.items l.rows.items;
      many : length l.places.items ≡ l.i;
      rows : (z : ℕ) (d : Key) → z < l.i → IsRowFor l.rows.items (slice_index l.places.items z) (get_or l.keys z d) l.thread;
    }
