use Rattle.mr_next.proofs.Common.{◌≡◌, ℕ, ◌++◌, subst, OnOk}
use Rattle.mr_next.specs.Texts.{each_text}
use Rattle.mr_next.proofs.texts.push_prospects.Goals as goal

pub returns : goal.returns
returns c =
    subst (λ (n : ℕ). OnOk c.push_each.result
    (c.push_each.new.out.items ≡ c.args.out.now.items ++ each_text c.args.p.now n c.args.positions.now c.args.prospects.now))
    c.new_thread-new.ensures c.push_each.ensures
