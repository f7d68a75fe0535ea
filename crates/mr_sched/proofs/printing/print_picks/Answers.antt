use Rattle.mr_sched.proofs.Common.{take, ◌∙◌, spaced}
use Rattle.mr_sched.proofs.Pieces.{on_err_since, extended_twice}
use Rattle.mr_sched.proofs.printing.print_picks.Goals as goal

pub returns-in_err-push-clause-err : goal.returns-in_err-push-clause-err
returns-in_err-push-clause-err c =
    on_err_since c.from_residual.result (spaced (take c.loop-pick.pick-index c.args.picks.now), c.in_err-push.ensures.items ∙ c.loop-pick.invariant)

pub returns-in_err-extend_from_slice-clause-err : goal.returns-in_err-extend_from_slice-clause-err
returns-in_err-extend_from_slice-clause-err c =
    on_err_since c.from_residual-in_err-extend_from_slice.result
    (extended_twice c.args.out.now.items c.loop-pick.out.items c.extend_from_slice.new.self.items _ _ c.loop-pick.invariant (c.in_err-extend_from_slice.ensures.items ∙ c.in_ok-push.ensures.items))
