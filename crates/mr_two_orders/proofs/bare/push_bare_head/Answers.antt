use Rattle.mr_two_orders.proofs.Common.{◌++◌, codes, behind, last_behind}
use Rattle.mr_two_orders.specs.Standing.{races_word}
use Rattle.mr_two_orders.proofs.bare.push_bare_head.Goals as goal

pub returns : goal.returns
returns c =
    let old = c.args.out.now.items in
    let begins = codes "Rust's order: " in
    let rust = races_word c.args.rust in
    let other = codes "; the machine's: " in
    let machine = races_word c.args.machine in
    last_behind c.push-3.result old (begins ++ rust ++ other ++ machine) (codes "\n") _ _
    (behind old (begins ++ rust ++ other) machine _ _
    (behind old (begins ++ rust) other _ _
    (behind old begins rust _ _ c.in_ok-push.ensures c.in_ok-push_races_word.ensures)
    c.in_ok-push-2.ensures)
    c.in_ok-push_races_word-2.ensures)
    c.push-3.ensures
