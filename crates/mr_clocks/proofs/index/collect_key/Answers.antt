use Rattle.mr_clocks.proofs.Common.{IsAsked, IsListed}
use Rattle.mr_clocks.proofs.MarkLaws.{key_found}
use Rattle.mr_clocks.proofs.index.collect_key.Goals as goal

pub returns-clause-all : goal.returns-clause-all
returns-clause-all c =
    key_found c.args.index.now.shelves.items c.args.index.now.marks.keys c.args.key c.exact_shelf.result c.key_place-place.result
    (λ x. IsAsked c.args.step.now c.args.rows.now x → IsListed c.collect.new.found.items x)
    c.exact_shelf.ensures c.key_place-place.ensures c.in_ok-collect.ensures.all
