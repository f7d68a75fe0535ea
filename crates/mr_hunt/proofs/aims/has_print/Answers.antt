use Rattle.mr_hunt.proofs.Common.{◌∙◌, ap, list_any, is_print}
use Rattle.mr_hunt.proofs.SeenLaws.{output_is}
use Rattle.mr_hunt.proofs.aims.has_print.Goals as goal

pub returns : goal.returns
returns c = λ laid.
    c.any_print.ensures
    ∙ ap (list_any (is_print c.args.text.now))
    (output_is c.args.p.now c.args.number c.args.most c.in_ok-drawn.drawn.schedule c.in_ok-drawn.drawn.machine
    c.in_ok-drawn.ensures.schedule c.in_ok-drawn.ensures.run)
