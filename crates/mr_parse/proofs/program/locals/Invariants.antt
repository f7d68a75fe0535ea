use Rattle.mr_parse.proofs.Common.{◌≡◌, ◌-◌, suc, codes, local_form, locals_form, ◌▸◌, is_word, read, many_at}
use Rattle.mr_parse.proofs.Walk.LoopLaws.{with_front}
use Rattle.mr_parse.proofs.program.locals.Given as goal

abbrev pub invariant-loop-k : goal.invariant-loop-k
invariant-loop-k l =
    with_front l.locals (many_at (λ k. read l.room l.scope (codes "," ▸ local_form (suc k))) (is_word (codes ",")) (l.most - l.k) l.k l.reader)
    ≡ read l.room l.scope locals_form l.fn.reader
