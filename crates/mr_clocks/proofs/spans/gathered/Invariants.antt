use Rattle.mr_clocks.proofs.Common.{◌≡◌, ℕ, ◌<◌, true, false, get_or, Contains, Access, span_of}
use Rattle.mr_clocks.proofs.spans.gathered.Given as goal

abbrev pub invariant-loop-i : goal.invariant-loop-i
invariant-loop-i l =
    (d : Access) (z : ℕ) → z < l.i → 0 < (get_or l.accesses z d).len → (l.every ≡ false → (get_or l.accesses z d).store ≡ true)
    → Contains l.spans.items (span_of (get_or l.accesses z d))
