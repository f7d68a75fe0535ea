use Rattle.mr_clocks.proofs.Common.{ℕ, ◌<◌, get_or, Key, IsExact, IsMarked, IsAsked, IsListed}
use Rattle.mr_clocks.proofs.index.collect_keys.Given as goal

abbrev pub invariant-loop-i : goal.invariant-loop-i
invariant-loop-i l =
    record {
      kept : (x : ℕ) → IsListed l.initial.found.items x → IsListed l.found.items x;
      all :
          (d : Key) (z x : ℕ) → z < l.i → IsExact (get_or l.keys z d)
          → IsMarked l.index.shelves.items l.index.marks.keys (get_or l.keys z d) x → IsAsked l.step l.rows x
          → IsListed l.found.items x;
    }
