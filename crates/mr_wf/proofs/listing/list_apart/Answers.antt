use Rattle.mr_wf.proofs.Common.{arith}
use Rattle.mr_wf.proofs.ListedLaws.{apart_from}
use Rattle.mr_wf.proofs.listing.list_apart.Goals as goal

pub list_type-requires-clause-ty : goal.list_type-requires-clause-ty
list_type-requires-clause-ty c =
    apart_from c.args.locals.now c.loop-variant.list.items c.args.whole c.args.t.now c.args.variants.now c.loop-variant.variant-index c.variant-item.result
    c.loop-variant.invariant c.requires.variants c.requires.apart (omega arith) c.variant-item.is
