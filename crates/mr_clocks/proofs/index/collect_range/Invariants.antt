use Rattle.mr_clocks.proofs.Common.{◌≡◌, ℕ, ◌<◌, ◌^◌, true, Access, conflicts, IsOnShelf, has_mark, mark_of, IsAsked, IsListed}
use Rattle.mr_clocks.proofs.index.collect_range.Given as goal

abbrev pub invariant-loop-s : goal.invariant-loop-s
invariant-loop-s l =
    record {
      kept : (x : ℕ) → IsListed l.initial.found.items x → IsListed l.found.items x;
      all :
          (z : ℕ) (r : Access) (t x : ℕ) → z < l.s → conflicts r l.access ≡ true → IsOnShelf l.index.shelves.items r z → t < 2 ^ 32 → x < 2 ^ 64
          → has_mark l.index.marks.keys (mark_of z r.addr t x) ≡ true → IsAsked l.step l.rows x → IsListed l.found.items x;
    }
