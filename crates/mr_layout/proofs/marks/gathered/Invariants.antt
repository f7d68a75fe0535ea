use Rattle.mr_layout.proofs.Common.{◌≡◌, ◌*◌, ◌%◌, ◌<◌, ◌≤◌, ℕ, length, ◌||◌, is_marked, Use}
use Rattle.mr_layout.proofs.marks.gathered.Given as goal

abbrev pub invariant-loop-rest : goal.invariant-loop-rest
invariant-loop-rest l =
    record {
      few : length l.all.items ≤ l.step;
      enough : 0 < length l.rest → l.step ≤ length l.all.items;
      same : (part : Use) (len n : ℕ) → l.step ≡ n * len
          → is_marked (λ at. part (at % len)) l.row ≡ (is_marked (λ at. part (at % len)) l.all.items || is_marked (λ at. part (at % len)) l.rest);
    }

abbrev pub decreases-loop-rest : goal.decreases-loop-rest
decreases-loop-rest l = length l.rest
