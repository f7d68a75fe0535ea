use Rattle.mr_clocks.proofs.Common.{◌≡◌, ℕ, ◌<◌, ◌↔◌, IsTrue, false, length, get_or, IsNeeded}
use Rattle.mr_clocks.proofs.whole.needed_plain.Given as goal

abbrev pub invariant-loop-k : goal.invariant-loop-k
invariant-loop-k l =
    record {
      count : length l.marks.items ≡ l.k;
      each : (m : ℕ) → m < l.k → IsTrue (get_or l.marks.items m false) ↔ IsNeeded l.run l.steps m;
    }
