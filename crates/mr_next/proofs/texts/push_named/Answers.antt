use Rattle.mr_next.proofs.Common.{◌≡◌, ◌++◌, ℕ, List, subst, OnOk, ◌==◌, codes, decimal, if◌then◌else◌}
use Rattle.mr_next.proofs.Appended.{last_behind}
use Rattle.mr_next.proofs.texts.push_named.Goals as goal

pub returns : goal.returns
returns c =
    let gap : List ℕ = if c.args.at == 0 then codes " " else codes ", " in
    last_behind c.push_number.result c.args.out.now.items gap (decimal c.args.thread) _ _ c.in_ok-push_gap.ensures
    (subst (λ (n : ℕ). OnOk c.push_number.result (c.push_number.new.out.items ≡ c.push_gap.new.out.items ++ decimal n))
    c.from.ensures c.push_number.ensures)
