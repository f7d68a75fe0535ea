use Rattle.mr_run.proofs.Common.{◌≡◌, ◌++◌, ◌∷◌, [], ◌∙◌, List, ap, arith, length, subst, OnErr, OnOk, Footprint}
use Rattle.mr_run.proofs.clocked.ClockedRecord.keep.Goals as goal

pub join-requires-clause-few : goal.join-requires-clause-few
join-requires-clause-few c =
    let (steps, kept, room) = c.requires in
    omega (arith, ap length (c.self.view_is ∙ kept), room)

pub returns-clause-ok : goal.returns-clause-ok
returns-clause-ok c = λ steps kept.
    subst (λ (l : List Footprint). OnOk c.join.result (c.join.new.steps.items ≡ l ++ c.args.foot.now ∷ [])) (c.self.view_is ∙ kept) c.join.ensures.ok

pub returns-clause-err : goal.returns-clause-err
returns-clause-err c = λ steps kept.
    subst (λ (l : List Footprint). OnErr c.join.result (c.join.new.steps.items ≡ l)) (c.self.view_is ∙ kept) c.join.ensures.err
