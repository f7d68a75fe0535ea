use Rattle.mr_parse.proofs.Common.{◌≡◌, ◌-◌, suc, codes, block_form, blocks_form, other_than, read, many_at}
use Rattle.mr_parse.proofs.Walk.LoopLaws.{with_front}
use Rattle.mr_parse.proofs.program.blocks.Given as goal

abbrev pub invariant-loop-k : goal.invariant-loop-k
invariant-loop-k l =
    with_front l.blocks (many_at (λ k. read l.room l.scope (block_form (suc k))) (other_than (codes "}")) (l.most - l.k) l.k l.reader)
    ≡ read l.room l.scope blocks_form l.fn.reader
