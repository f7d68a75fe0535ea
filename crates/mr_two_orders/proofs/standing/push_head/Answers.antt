use Rattle.mr_two_orders.proofs.Common.{◌++◌, codes, behind, last_behind}
use Rattle.mr_two_orders.specs.Standing.{count_text}
use Rattle.mr_two_orders.proofs.standing.push_head.Goals as goal

pub returns : goal.returns
returns c =
    let old = c.args.out.now.items in
    let begins = codes "Rust's order: " in
    let rust = count_text c.args.rust c.args.rust_places in
    let other = codes "; the machine's: " in
    let machine = count_text c.args.machine c.args.machine_places in
    last_behind c.push-3.result old (begins ++ rust ++ other ++ machine) (codes "\n") _ _
    (behind old (begins ++ rust ++ other) machine _ _
    (behind old (begins ++ rust) other _ _
    (behind old begins rust _ _ c.in_ok-push.ensures c.in_ok-push_count_text.ensures)
    c.in_ok-push-2.ensures)
    c.in_ok-push_count_text-2.ensures)
    c.push-3.ensures
