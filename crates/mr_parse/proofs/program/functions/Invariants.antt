use Rattle.mr_parse.proofs.Common.{◌≡◌, ◌-◌, codes, function_form, functions_form, is_word, read, many_at}
use Rattle.mr_parse.proofs.Walk.LoopLaws.{with_front}
use Rattle.mr_parse.proofs.program.functions.Given as goal

abbrev pub invariant-loop-k : goal.invariant-loop-k
invariant-loop-k l =
    with_front l.functions (many_at (λ k. read l.room l.scope (function_form k)) (is_word (codes "fn")) (l.most - l.k) l.k l.reader)
    ≡ read l.room l.scope functions_form l.fn.reader
