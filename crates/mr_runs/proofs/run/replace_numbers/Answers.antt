use Rattle.mr_runs.proofs.Common.{◌≡◌, ◌∙◌, refl, sym, ap, arith, take, length, length-take, take_more, with_range_replaced}
use Rattle.mr_runs.proofs.RangeLaws.{range_grows}
use Rattle.mr_runs.proofs.run.replace_numbers.Goals as goal

pub loop-index-preserved : goal.loop-index-preserved
loop-index-preserved c =
    let i = c.loop-index.index in
    let others = c.args.others.now in
    let done_len : length (take i others) ≡ i = omega (arith, length-take i others) in
    range_grows c.args.numbers.now c.loop-index.numbers _ c.args.at (take i others) i _ c.loop-index.invariant refl done_len (omega arith)
    ∙ ap (with_range_replaced c.args.numbers.now c.args.at) (sym (take_more others i 0 c.loop-index-test.true))
