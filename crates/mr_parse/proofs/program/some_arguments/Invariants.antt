use Rattle.mr_parse.proofs.Common.{◌≡◌, ◌-◌, codes, ◌▸◌, is_word, local_use, args_form, read, many_at}
use Rattle.mr_parse.proofs.Walk.LoopLaws.{with_front}
use Rattle.mr_parse.proofs.program.some_arguments.Given as goal

abbrev pub invariant-loop : goal.invariant-loop
invariant-loop l =
    with_front l.args (many_at (λ k. read l.room l.scope (codes "," ▸ local_use)) (is_word (codes ",")) (l.most - l.counter) l.counter l.reader)
    ≡ read l.room l.scope args_form l.fn.reader
