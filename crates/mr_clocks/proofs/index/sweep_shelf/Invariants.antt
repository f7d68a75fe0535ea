use Rattle.mr_clocks.proofs.Common.{◌≡◌, ℕ, ◌<◌, ◌^◌, true, has_mark, mark_of, IsAsked, IsListed, IsReached}
use Rattle.mr_clocks.proofs.index.sweep_shelf.Given as goal

abbrev pub invariant-loop-i : goal.invariant-loop-i
invariant-loop-i l =
    record {
      kept : (x : ℕ) → IsListed l.initial.found.items x → IsListed l.found.items x;
      all :
          (z p : ℕ) → z < l.i → IsReached l.list l.shelf.width z p → (t x : ℕ) → t < 2 ^ 32 → x < 2 ^ 64
          → has_mark l.index.marks.keys (mark_of l.s p t x) ≡ true → IsAsked l.step l.rows x → IsListed l.found.items x;
    }
