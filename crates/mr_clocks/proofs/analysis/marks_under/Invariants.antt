use Rattle.mr_clocks.proofs.Common.{◌≡◌, ℕ, ◌<◌, ◌↔◌, IsTrue, false, length, get_or, IsUnder}
use Rattle.mr_clocks.proofs.analysis.marks_under.Given as goal

abbrev pub invariant-loop-k : goal.invariant-loop-k
invariant-loop-k l =
    record {
      count : length l.marks.items ≡ l.k;
      each : (m : ℕ) → m < l.k → IsTrue (get_or l.marks.items m false) ↔ IsUnder l.run l.clock m;
    }
