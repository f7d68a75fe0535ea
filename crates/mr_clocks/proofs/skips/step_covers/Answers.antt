use Rattle.mr_clocks.proofs.Common.{List, ap, subst, ◌∙◌, Access, Footprint, step_at, step_read, AreAmong}
use Rattle.mr_clocks.proofs.skips.step_covers.Goals as goal

pub returns : goal.returns
returns c = λ e.
    let run = c.args.run.now in
    let is = step_read run c.args.j c.index-run-j.result c.requires c.index-run-j.is in
    subst (λ (l : List Access). AreAmong l (step_at run c.args.j).accesses) c.accesses.ensures
    (subst (λ (l : List Access). AreAmong c.accesses.result.now l) (c.accesses-2.ensures ∙ ap (λ (f : Footprint). f.accesses) is) (c.are_among.ensures e))
