use Rattle.std.proofs.Common.{◌≡◌, ℕ, ◌+◌, ◌++◌, subst}
use Rattle.std.specs.Prelude.{OnOk}
use Rattle.mr_refusals.specs.Going.{may_stand}
use Rattle.mr_refusals.proofs.texts.push_behind.Goals as goal

pub returns : goal.returns
returns c =
    subst (λ (n : ℕ). OnOk c.push_may_stand.result
    (c.push_may_stand.new.out.items ≡ c.args.out.now.items ++ may_stand c.args.front.now (n + 1)))
    c.from.ensures c.push_may_stand.ensures
