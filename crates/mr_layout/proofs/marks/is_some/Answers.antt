use Rattle.mr_layout.proofs.Common.{◌≡◌, get_or, max, ap, ◌∙◌, arith, nat_lt}
use Rattle.mr_layout.proofs.FoldLaws.{one_mark, all_marks}
use Rattle.mr_layout.proofs.marks.is_some.Goals as goal

pub loop-byte-preserved : goal.loop-byte-preserved
loop-byte-preserved c =
    let more : c.max-most.result ≡ max c.loop-byte.most (get_or c.args.table.now c.loop-byte.byte-index 0) = omega arith in
    ap (nat_lt 0) more ∙ one_mark c.args.table.now c.loop-byte.byte-index c.loop-byte.most c.loop-byte.invariant

pub returns : goal.returns
returns c = all_marks c.args.table.now c.loop-byte.byte-index c.loop-byte.most c.loop-byte-test.false c.loop-byte.invariant
