use Rattle.mr_hunt.proofs.Common.{◌∙◌, ap, length, List, ◌==◌, not, Pair}
use Rattle.mr_hunt.proofs.SeenLaws.{races_are}
use Rattle.mr_hunt.proofs.aims.has_race.Goals as goal

pub returns : goal.returns
returns c = λ laid.
    let races =
    races_are c.args.p.now c.args.number c.args.most c.in_ok-draw.field-0.schedule c.in_ok-draw.field-0.machine
    c.in_ok-draw.ensures.schedule c.in_ok-draw.ensures.run c.draw.new.kept c.races.result.now
    c.in_ok-draw.ensures.kept c.races.ensures in
    ap not (c.is_empty.ensures ∙ ap (λ (rs : List Pair). length rs == 0) races)
