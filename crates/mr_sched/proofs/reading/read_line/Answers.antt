use Rattle.mr_sched.proofs.Common.{◌+◌, ◌^◌, ◌≤◌, length, arith}
use Rattle.mr_sched.proofs.GroupLaws.{group_bare, group_some}
use Rattle.mr_sched.proofs.Loops.{line_fits, pushed_more}
use Rattle.mr_sched.proofs.reading.read_line.Goals as goal

pub push_group-requires-clause-some : goal.push_group-requires-clause-some
push_group-requires-clause-some c = group_some c.args.v c.in_ok-group.group (line_fits c.args.v c.args.text.now c.args.line c.in_ok-group.group c.in_ok-group.ensures)

pub push_group-requires-clause-bare : goal.push_group-requires-clause-bare
push_group-requires-clause-bare c = group_bare c.args.v c.in_ok-group.group (line_fits c.args.v c.args.text.now c.args.line c.in_ok-group.group c.in_ok-group.ensures)

pub returns-clause-more : goal.returns-clause-more
returns-clause-more c =
    let some = group_some c.args.v c.in_ok-group.group (line_fits c.args.v c.args.text.now c.args.line c.in_ok-group.group c.in_ok-group.ensures) in
    let few : length c.args.entries + c.in_ok-group.group.count ≤ 2 ^ 22 = omega (arith, c.len-room.ensures) in
    pushed_more c.args.entries c.in_ok-group.group c.push_group.result some few c.push_group.ensures
