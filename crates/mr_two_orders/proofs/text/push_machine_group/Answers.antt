use Rattle.mr_two_orders.proofs.Common.{◌≡◌, ◌++◌, ℕ, List, subst, sym, OnOk, Pair, rust_races, group_line, seen, last_behind, IsRising}
use Rattle.mr_two_orders.specs.Standing.{machine_line}
use Rattle.mr_two_orders.proofs.AloneLaws.{list_is, told_alone, told_with}
use Rattle.mr_two_orders.proofs.PairLaws.{rust_rises}
use Rattle.mr_two_orders.proofs.text.push_machine_group.Goals as goal

pub returns-then-count-gt0 : goal.returns-then-count-gt0
returns-then-count-gt0 c =
    told_with (seen c.args.shown.now) (seen c.args.rust.now) c.args.group c.requires.rust c.count_at-count.result
    c.count_at-count.ensures c.if-count-gt0.true c.args.out.now.items

pub push_machine_line-requires : goal.push_machine_line-requires
push_machine_line-requires c =
    let s = seen c.args.shown.now in
    subst IsRising
    (sym (list_is s (seen c.args.rust.now) c.args.group c.requires.rust c.count_at-count.result c.count_at-count.ensures))
    (rust_rises s.feet)

pub returns : goal.returns
returns c =
    let s = seen c.args.shown.now in
    let r = seen c.args.rust.now in
    let g = c.args.group in
    let n = c.count_at-count.result in
    let counts = c.count_at-count.ensures in
    let old = c.args.out.now.items in
    let made = c.push_machine_line.new.out.items in
    subst (λ (l : List ℕ). OnOk c.push_machine_line.result (made ≡ old ++ l))
    (told_alone s r g c.requires.rust n counts c.if-count-gt0.false)
    (last_behind c.push_machine_line.result old (group_line s g) (machine_line (rust_races s.feet) g.first) _ made
    c.in_ok-push_group.ensures
    (subst (λ (xs : List Pair). OnOk c.push_machine_line.result (made ≡ c.push_group.new.out.items ++ machine_line xs g.first))
    (list_is s r g c.requires.rust n counts) c.push_machine_line.ensures))
