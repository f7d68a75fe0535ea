use Rattle.mr_hunt.proofs.RunFaults.{never_broken}
use Rattle.mr_hunt.proofs.seeing.stood.Goals as goal

pub unreachable-requires : goal.unreachable-requires
unreachable-requires c =
    never_broken c.args.p.now c.args.w.now _ c.requires.legal (rw c.in-Err-Broken.field-0-is at c.in-Err-Broken.ensures.answer)
