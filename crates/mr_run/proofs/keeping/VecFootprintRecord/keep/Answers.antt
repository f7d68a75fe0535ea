use Rattle.mr_run.proofs.Common.{◌≡◌, ◌++◌, ◌∷◌, [], List, subst, OnErr, OnOk, Footprint}
use Rattle.mr_run.proofs.keeping.VecFootprintRecord.keep.Goals as goal

pub returns-clause-ok : goal.returns-clause-ok
returns-clause-ok c = λ steps kept.
    subst (λ (l : List Footprint). OnOk c.push_to.result (c.push_to.new.steps.items ≡ l ++ c.args.foot.now ∷ [])) kept c.push_to.ensures.ok

pub returns-clause-err : goal.returns-clause-err
returns-clause-err c = λ steps kept. subst (λ (l : List Footprint). OnErr c.push_to.result (c.push_to.new.steps.items ≡ l)) kept c.push_to.ensures.err
