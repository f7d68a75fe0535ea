use Rattle.mr_rust_order.proofs.Common.{◌≡◌, ℕ, ◌<◌, ◌^◌, true, Access, conflicts, IsListed, IsOnShelf, has_mark, mark_of}
use Rattle.mr_rust_order.proofs.index.find_rows.Given as goal

abbrev pub invariant-loop-s : goal.invariant-loop-s
invariant-loop-s l =
    (z : ℕ) (r : Access) (t x : ℕ) → z < l.s → conflicts r l.access ≡ true → IsOnShelf l.index.shelves.items r z → t < 2 ^ 32 → x < 2 ^ 64
    → has_mark l.index.marks.keys (mark_of z r.addr t x) ≡ true → IsListed l.found.items x
