use Rattle.mr_clocks.proofs.Common.{ℕ, List, ap, subst, sym, ◌∙◌, arith, Access, step_at, AreAmong, IsWalking, skip_at}
use Rattle.mr_clocks.proofs.SkipLaws.{skip_read, walking_skip}
use Rattle.mr_clocks.proofs.walks.pass_skip.Goals as goal

pub returns-clause-falls : goal.returns-clause-falls
returns-clause-falls c =
    let is = skip_read c.args.skips.now c.args.m c.index-skips-m.result c.requires.inside c.index-skips-m.is in
    let low = ap (λ s. s.1) is in
    let less = c.requires.serves.falls in
    omega (arith, c.low-walk.ensures, low, less)

pub returns-clause-walking : goal.returns-clause-walking
returns-clause-walking c =
    let run = c.args.run.now in
    let walk = c.args.walk.now in
    let skip = skip_at c.args.skips.now c.args.m in
    let new = c.add_all.new.by.items in
    let e = c.in_ok-add_all.ensures in
    let is = skip_read c.args.skips.now c.args.m c.index-skips-m.result c.requires.inside c.index-skips-m.is in
    let accesses = c.accesses.ensures ∙ ap (λ s. s.2) is in
    let taken : AreAmong skip.2 new = subst (λ (l : List Access). AreAmong l new) accesses e.taken in
    let own : AreAmong c.accesses.result.now (step_at run c.args.j).accesses = subst (λ (l : List Access). AreAmong l (step_at run c.args.j).accesses) (sym accesses) c.requires.serves.covered in
    let w = c.requires.walking in
    subst (λ (q : ℕ). IsWalking run c.args.j q c.args.links.now c.args.row walk.whole new) (sym (c.low-walk.ensures ∙ ap (λ s. s.1) is))
    (walking_skip run c.args.j walk.end c.args.links.now c.args.row walk.whole walk.by.items new skip (c.requires.skips c.args.m c.requires.inside) c.requires.serves c.requires.other e.kept taken
    (e.covered (step_at run c.args.j).accesses w.covered own) w)
