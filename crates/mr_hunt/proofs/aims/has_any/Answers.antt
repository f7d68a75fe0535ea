use Rattle.mr_hunt.proofs.Common.{◌∙◌, length, ◌==◌, ◌||◌, not, verdict_number}
use Rattle.mr_hunt.proofs.SeenLaws.{races_are, verdict_is}
use Rattle.mr_hunt.proofs.aims.has_any.Goals as goal

pub returns : goal.returns
returns c = λ laid.
    let p = c.args.p.now in
    let w = c.in_ok-drawn.drawn.schedule in
    let m = c.in_ok-drawn.drawn.machine in
    let verdict =
    verdict_is p c.args.number c.args.most w m c.in_ok-drawn.ensures.schedule c.in_ok-drawn.ensures.run
    c.verdict.result c.verdict.ensures in
    let races =
    races_are p c.args.number c.args.most w m c.in_ok-drawn.ensures.schedule c.in_ok-drawn.ensures.run
    c.draw.new.kept c.races.result.now c.in_ok-drawn.ensures.kept c.races.ensures in
    c.is_any.ensures ∙ (λ i. not (verdict_number (verdict i) == 1) || not (length (races i) == 0))
