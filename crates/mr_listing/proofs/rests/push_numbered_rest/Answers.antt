use Rattle.mr_listing.proofs.Common.{◌∙◌, ap, sym, ◌++◌, append-nil, Option, seen}
use Rattle.std.proofs.lemmas.Option.{slice_get_past}
use Rattle.mr_labels.specs.declared.step.Rest.{Rest}
use Rattle.mr_listing.specs.Rests.{rest_told}
use Rattle.mr_listing.proofs.rests.push_numbered_rest.Goals as goal

pub returns-in-None : goal.returns-in-None
returns-in-None c =
    sym (append-nil c.args.out.now.items)
    ∙ ap (λ (rest : Option Rest). c.args.out.now.items ++ rest_told (seen c.args.shown.now) c.args.thread rest)
    (sym (slice_get_past c.args.shown.now.rests.now c.args.thread c.in-None.ensures.lookup.3))
