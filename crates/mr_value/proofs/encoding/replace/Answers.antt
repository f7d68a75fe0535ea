use Rattle.mr_value.proofs.Common.{◌≡◌, ◌+◌, ◌∙◌, refl, sym, ap, arith, get_or, take, length, length-take, take_more, Uninit, with_range_replaced}
use Rattle.std.proofs.Common.{set}
use Rattle.mr_runs.proofs.RangeLaws.{range_grows}
use Rattle.mr_value.proofs.encoding.replace.Goals as goal

pub loop-i-preserved : goal.loop-i-preserved
loop-i-preserved c =
    let i = c.loop-i.i in
    let piece = c.args.piece.now in
    let old = c.args.bytes.now.items in
    let now = c.loop-i.bytes.items in
    let x = get_or piece i Uninit in
    let done : length (take i piece) ≡ i = omega (arith, length-take i piece) in
    range_grows old now (set now (c.args.at + i) x) c.args.at (take i piece) i x c.loop-i.invariant refl done (omega arith)
    ∙ ap (with_range_replaced old c.args.at) (sym (take_more piece i Uninit c.loop-i-test.true))
