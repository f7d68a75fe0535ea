use Rattle.mr_parse.proofs.Common.{◌≡◌, ◌-◌, codes, ◌▸◌, is_word, Part, TheValue, values_form, read, many_at}
use Rattle.mr_parse.proofs.Walk.LoopLaws.{with_front}
use Rattle.mr_parse.proofs.statements.some_values.Given as goal

abbrev pub invariant-loop : goal.invariant-loop
invariant-loop l =
    with_front l.values (many_at (λ k. read l.room l.scope (codes "," ▸ (Part TheValue))) (is_word (codes ",")) (l.most - l.counter) l.counter l.reader)
    ≡ read l.room l.scope values_form l.fn.reader
