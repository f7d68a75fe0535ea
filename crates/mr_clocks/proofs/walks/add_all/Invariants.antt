use Rattle.mr_clocks.proofs.Common.{ℕ, ◌<◌, List, get_or, Contains, Access, AreAmong}
use Rattle.mr_clocks.proofs.walks.add_all.Given as goal

abbrev pub invariant-loop-i : goal.invariant-loop-i
invariant-loop-i l =
    record {
      kept : AreAmong l.initial.by.items l.by.items;
      taken : (k : ℕ) (d : Access) → k < l.i → Contains l.by.items (get_or l.more k d);
      covered : (accesses : List Access) → AreAmong l.initial.by.items accesses → AreAmong l.more accesses → AreAmong l.by.items accesses;
    }
