use Rattle.mr_sched.proofs.Common.{◌∙◌}
use Rattle.mr_sched.proofs.Pieces.{on_err_since}
use Rattle.mr_sched.proofs.VersionLaws.{more_then}
use Rattle.mr_sched.proofs.printing.print_groups.Goals as goal

pub returns-in_err-count-clause-err : goal.returns-in_err-count-clause-err
returns-in_err-count-clause-err c =
    on_err_since c.from_residual.result (more_then c.args.out.now.items c.loop-at.out.items c.print_end.new.out.items c.loop-at.invariant.2 c.print_end.ensures.more)

pub loop-at-preserved : goal.loop-at-preserved
loop-at-preserved c = (
  c.in_ok-count.ensures.ok ∙ c.loop-at.invariant.0,
  c.in_ok-count.ensures.fewer,
  more_then c.args.out.now.items c.loop-at.out.items c.print_end.new.out.items c.loop-at.invariant.2 c.print_end.ensures.more,
)
