use Rattle.mr_clocks.proofs.Common.{◌≡◌, ℕ, ◌<◌, ◌≤◌, true, length, asks, IsListed, row_at}
use Rattle.mr_clocks.specs.Rows.{IsOwn}
use Rattle.mr_clocks.proofs.memos.add_others.Given as goal

abbrev pub invariant-loop-x : goal.invariant-loop-x
invariant-loop-x l =
    record {
      kept : (z : ℕ) → IsListed l.initial.others.items z → IsListed l.others.items z;
      here : (y : ℕ) → l.from ≤ y → y < l.x → y < length l.rows → (IsOwn (row_at l.rows y) l.step.thread → ⊥)
          → asks l.step (row_at l.rows y).key ≡ true → IsListed l.others.items y;
    }
