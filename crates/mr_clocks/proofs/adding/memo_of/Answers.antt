use Rattle.mr_clocks.proofs.Common.{subst, Footprint, step_read, IsMemoOf, memo_at}
use Rattle.std.proofs.Common.{IfOk}
use Rattle.mr_clocks.proofs.adding.memo_of.Goals as goal

pub returns-clause-memo : goal.returns-clause-memo
returns-clause-memo c =
    subst (λ (f : Footprint). IfOk c.look_up.result (λ x. IsMemoOf c.look_up.new.rows.items f (memo_at c.look_up.new.memos.items x)))
    (step_read c.args.run.now c.args.j c.index-run-j.result c.requires.within c.index-run-j.is) c.look_up.ensures.memo
