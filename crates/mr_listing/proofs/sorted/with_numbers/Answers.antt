use Rattle.mr_listing.proofs.Common.{◌≡◌, arith, length, Pair}
use Rattle.mr_listing.proofs.AlikeLaws.{one_more}
use Rattle.mr_listing.proofs.sorted.with_numbers.Goals as goal

abbrev none : Pair
none = record { first = 0; second = 0 }

pub loop-pair-preserved : goal.loop-pair-preserved
loop-pair-preserved c =
    let all = c.loop-pair.all in
    let number : c.len-number.result ≡ length all.items = omega (arith, c.len-number.ensures, all.ok.0) in
    one_more c.args.races.now c.loop-pair.pair-index none c.loop-pair-test.true all.items _ _
    c.loop-pair.invariant number c.in_ok-push.ensures.items
