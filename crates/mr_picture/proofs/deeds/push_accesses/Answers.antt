use Rattle.mr_picture.proofs.Common.{◌∙◌, arith, seen}
use Rattle.std.specs.Prelude.{option_copied}
use Rattle.mr_labels.proofs.Growing.{appended_next}
use Rattle.mr_picture.specs.Deeds.{deed_back}
use Rattle.mr_picture.proofs.deeds.push_accesses.Goals as goal

pub loop-back-preserved : goal.loop-back-preserved
loop-back-preserved c =
    c.in_ok-push_access_back.ensures
    ∙ appended_next
    (deed_back (seen c.args.shown.now) c.args.here (option_copied c.args.values) c.args.accesses.now)
    c.args.out.now.items c.loop-back.out.items 0 c.loop-back.back c.loop-back.back (omega arith) c.loop-back.invariant
