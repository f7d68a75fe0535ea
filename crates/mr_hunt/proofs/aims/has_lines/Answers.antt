use Rattle.mr_hunt.proofs.Common.{◌∙◌, ap, list_any, is_between}
use Rattle.mr_hunt.proofs.aims.has_lines.Goals as goal

pub returns : goal.returns
returns c =
    c.any_between.ensures
    ∙ ap (list_any (is_between c.args.places.now c.args.one c.args.other))
    (c.as_slice.ensures.value ∙ c.in_ok-ends.ensures)
