use Rattle.mr_two_orders.proofs.Common.{◌≡◌, ◌++◌, ℕ, subst, OnOk, group_line, seen, last_behind, count_in}
use Rattle.mr_two_orders.specs.Standing.{rust_line}
use Rattle.mr_two_orders.proofs.text.push_rust_group.Goals as goal

pub returns : goal.returns
returns c =
    let s = seen c.args.shown.now in
    let g = c.args.group in
    let made = c.push_rust_line.new.out.items in
    last_behind c.push_rust_line.result c.args.out.now.items (group_line s g)
    (rust_line c.args.told s.feet s.races g (count_in s g)) _ made c.in_ok-push_group.ensures
    (subst (λ (n : ℕ). OnOk c.push_rust_line.result
    (made ≡ c.push_group.new.out.items ++ rust_line c.args.told s.feet s.races g n))
    c.count_at-count.ensures c.push_rust_line.ensures)
