use Rattle.mr_parse.proofs.Common.{◌≡◌, ◌-◌, codes, global_form, globals_form, is_word, read, many_at}
use Rattle.mr_parse.proofs.Walk.LoopLaws.{with_front}
use Rattle.mr_parse.proofs.program.globals.Given as goal

abbrev pub invariant-loop-k : goal.invariant-loop-k
invariant-loop-k l =
    with_front l.globals (many_at (λ k. read l.room l.scope (global_form k)) (is_word (codes "global")) (l.most - l.k) l.k l.reader)
    ≡ read l.room l.scope globals_form l.fn.reader
