use Rattle.mr_fill.proofs.Common.{◌≡◌, ◌^◌, ◌≤◌, length, option_copied, on_line, order_from, words_in}
use Rattle.mr_fill.proofs.OrderLaws.{size_of, words_left}
use Rattle.mr_fill.proofs.order.read_words.Given as goal

abbrev pub invariant-loop-rest : goal.invariant-loop-rest
invariant-loop-rest l = record {
  so_far :
      order_from l.turns (on_line l.line (words_left (option_copied l.rest)))
      ≡ order_from l.fn.turns (on_line l.line (words_in l.text));
  room : length l.turns ≤ 2 ^ 20;
}

abbrev pub decreases-loop-rest : goal.decreases-loop-rest
decreases-loop-rest l = size_of (option_copied l.rest)
