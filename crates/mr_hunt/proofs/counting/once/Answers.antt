use Rattle.mr_hunt.proofs.Common.{◌∙◌}
use Rattle.mr_hunt.proofs.TableLaws.{once_more}
use Rattle.mr_hunt.proofs.counting.once.Goals as goal

pub loop-end-preserved : goal.loop-end-preserved
loop-end-preserved c =
    c.in_ok-push_other.ensures
    ∙ once_more c.args.ends.now c.loop-end.found.items c.loop-end.end-index _ c.loop-end-test.true c.loop-end.invariant
