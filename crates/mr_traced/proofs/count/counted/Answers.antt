use Rattle.mr_traced.proofs.Common.{get, both_cmp, seen}
use Rattle.mr_traced.proofs.GroupLaws.{next_counted}
use Rattle.mr_traced.proofs.count.counted.Goals as goal

pub loop-pair-preserved : goal.loop-pair-preserved
loop-pair-preserved c =
    let s = seen c.args.shown.now in
    next_counted s (get both_cmp c.loop-pair.groups) (get both_cmp c.count_one.new.groups) s.races
    c.loop-pair.pair-index
    _ c.both_of.result c.loop-pair-test.true c.both_of.ensures c.loop-pair.invariant c.in_ok-count_one.ensures
