use Rattle.mr_wf.proofs.Common.{sym, surroundings_of}
use Rattle.mr_wf.proofs.ListedLaws.{variant_told}
use Rattle.mr_wf.proofs.alike.variant_at.Goals as goal

pub returns-in-Some : goal.returns-in-Some
returns-in-Some c =
    sym (variant_told (surroundings_of c.args.at) c.args.whole.now c.args.number c.args.t.now c.in-Some.found.now c.requires c.in-Some.ensures)
