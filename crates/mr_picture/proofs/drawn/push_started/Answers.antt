use Rattle.mr_picture.proofs.Common.{◌≡◌, ◌++◌, subst, sym, OnOk, Option, seen}
use Rattle.mr_labels.specs.declared.step.Stand.{Stand}
use Rattle.mr_picture.specs.Drawn.{started_name}
use Rattle.mr_picture.proofs.drawn.push_started.Goals as goal

pub returns-in-Some : goal.returns-in-Some
returns-in-Some c =
    subst (λ (o : Option Stand). OnOk c.push_name.result
    (c.push_name.new.out.items ≡ c.args.out.now.items ++ started_name (seen c.args.shown.now) o))
    (sym c.in-Some.is) c.push_name.ensures
