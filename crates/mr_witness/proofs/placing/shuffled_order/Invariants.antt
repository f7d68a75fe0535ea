use Rattle.mr_witness.proofs.Common.{◌≡◌, ◌-◌, ◌++◌, length, IsBoard, left_of, placed_in, shuffled_order}
use Rattle.mr_witness.proofs.placing.shuffled_order.Given as goal

abbrev pub invariant-loop-turn : goal.invariant-loop-turn
invariant-loop-turn l =
    record {
      board : IsBoard l.run l.fronts.items;
      many : length (left_of l.run l.fronts.items) ≡ length l.run - l._turn;
      told : l.order.items ++ placed_in l.run l.chooser (left_of l.run l.fronts.items) (length l.run - l._turn) ≡ shuffled_order l.run l.fn.number;
    }
