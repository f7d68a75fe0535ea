use Rattle.mr_two_orders.proofs.Common.{codes, last_behind, partner}
use Rattle.mr_two_orders.specs.Standing.{machine_why}
use Rattle.mr_two_orders.proofs.standing.push_rust_alone.Goals as goal

pub returns : goal.returns
returns c =
    let pair = c.args.pair in
    last_behind c.push_machine_why.result c.args.out.now.items (codes "Rust's order alone: ")
    (machine_why c.args.told c.args.run.now pair (partner c.args.machine.now pair.second)) _ _ c.in_ok-push.ensures
    c.push_machine_why.ensures
