use Rattle.mr_clocks.proofs.Common.{◌≡◌, ℕ, ◌<◌, true, get_or, Access, conflicts, Range, IsMarked, IsAsked, IsListed}
use Rattle.mr_clocks.proofs.index.collect_ranges.Given as goal

abbrev pub invariant-loop-i : goal.invariant-loop-i
invariant-loop-i l =
    record {
      kept : (x : ℕ) → IsListed l.initial.found.items x → IsListed l.found.items x;
      all :
          (d : Access) (z : ℕ) (r : Access) (x : ℕ) → z < l.i → conflicts r (get_or l.accesses z d) ≡ true
          → IsMarked l.index.shelves.items l.index.marks.keys (Range r) x → IsAsked l.step l.rows x → IsListed l.found.items x;
    }
