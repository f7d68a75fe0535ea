use Rattle.mr_parse.proofs.Common.{◌≡◌, ◌-◌, codes, item_form, items_form, other_than, read, many_at}
use Rattle.mr_parse.proofs.Walk.LoopLaws.{with_front}
use Rattle.mr_parse.proofs.program.items.Given as goal

abbrev pub invariant-loop : goal.invariant-loop
invariant-loop l =
    with_front l.items (many_at (λ k. read l.room l.scope item_form) (other_than (codes "}")) (l.most - l.counter) l.counter l.reader)
    ≡ read l.room l.scope items_form l.fn.reader
