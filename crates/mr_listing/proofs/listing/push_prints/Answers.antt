use Rattle.mr_listing.proofs.Common.{print_line}
use Rattle.mr_listing.proofs.Appended.{read_behind}
use Rattle.mr_listing.proofs.listing.push_prints.Goals as goal

pub loop-line-preserved : goal.loop-line-preserved
loop-line-preserved c =
    read_behind print_line c.args.out.now.items c.loop-line.out.items c.push_print.new.out.items c.args.lines.now
    c.loop-line.line-index c.line-item.result c.loop-line-test.true c.line-item.is c.loop-line.invariant
    c.in_ok-push_print.ensures
