use Rattle.mr_hunt.proofs.Common.{◌≤◌, ◌^◌, ◌∙◌, ◌++◌, ◌∷◌, [], arith, ap, length, List, map, subst, sym, Schedule, End, stands_of, race_at}
use Rattle.mr_hunt.specs.declared.ends.End.TheVariants as shown
use Rattle.mr_hunt.proofs.RunFaults.{drawn_few}
use Rattle.mr_hunt.proofs.SeenLaws.{ends_are}
use Rattle.mr_hunt.proofs.seeing.ends_of.Goals as goal

pub push_races-requires-clause-few : goal.push_races-requires-clause-few
push_races-requires-clause-few c =
    let few = drawn_few c.args.p.now c.args.number c.args.most in
    subst (λ (w : Schedule). length w.entries ≤ 2 ^ 22) (sym c.in_ok-drawn.ensures.schedule)
    (omega (arith, few, c.requires))

pub push_races-requires-clause-legal : goal.push_races-requires-clause-legal
push_races-requires-clause-legal c = c.in_ok-drawn.ensures.run.legal

pub returns : goal.returns
returns c =
    let w = c.in_ok-drawn.drawn.schedule in
    let p = c.args.p.now in
    c.in_ok-push_races.ensures
    ∙ ap (λ (xs : List End). xs ++ map (race_at (stands_of p w)) c.races.result.now)
    (c.in_ok-push.ensures.items ∙ ap (λ (xs : List End). xs ++ shown.Verdict c.verdict.result ∷ []) c.new-ends.ensures.items)
    ∙ ends_are p c.args.number c.args.most w c.in_ok-drawn.drawn.machine c.in_ok-drawn.ensures.schedule
    c.in_ok-drawn.ensures.run c.verdict.result c.draw.new.kept c.races.result.now c.verdict.ensures
    c.in_ok-drawn.ensures.kept c.races.ensures
