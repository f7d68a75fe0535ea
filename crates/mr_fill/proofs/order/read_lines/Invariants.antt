use Rattle.mr_fill.proofs.Common.{◌≡◌, ◌+◌, ◌^◌, ◌≤◌, length, option_copied, parts_after, parts_at, numbered_words, order_from}
use Rattle.mr_fill.proofs.OrderLaws.{size_of}
use Rattle.mr_fill.proofs.order.read_lines.Given as goal

abbrev pub invariant-loop-rest : goal.invariant-loop-rest
invariant-loop-rest l = record {
  so_far :
      order_from l.turns (numbered_words l.line (parts_after 10 (option_copied l.rest)))
      ≡ order_from l.fn.turns (numbered_words 1 (parts_at 10 l.text));
  room : length l.turns ≤ 2 ^ 20;
  line : l.line + size_of (option_copied l.rest) ≤ length l.text + 2;
}

abbrev pub decreases-loop-rest : goal.decreases-loop-rest
decreases-loop-rest l = size_of (option_copied l.rest)
