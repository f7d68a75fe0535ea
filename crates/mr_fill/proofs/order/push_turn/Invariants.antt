use Rattle.mr_fill.proofs.Common.{◌≡◌, ◌+◌, ◌++◌, ◌^◌, ◌≤◌, length}
use Rattle.std.specs.Prelude.{replicate}
use Rattle.mr_fill.proofs.order.push_turn.Given as goal

-- those that are left stand behind the turns
abbrev pub invariant-loop-left : goal.invariant-loop-left
invariant-loop-left l = record {
  so_far : l.turns ++ replicate l.left l.turn ≡ l.fn.turns ++ replicate l.count l.turn;
  room : length l.turns + l.left ≤ 2 ^ 20;
}

abbrev pub decreases-loop-left : goal.decreases-loop-left
decreases-loop-left l = l.left
