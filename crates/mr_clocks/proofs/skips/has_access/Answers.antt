use Rattle.mr_clocks.proofs.Common.{false, ◌∙◌, get_or_default, Access}
use Rattle.mr_clocks.proofs.skips.has_access.Goals as goal

pub returns-then-same_access : goal.returns-then-same_access
returns-then-same_access c = λ _.
    let none : Access = record { store = false; atomic = false; addr = 0; len = 0 } in
    (c.loop-i.i, c.loop-i-test.true, get_or_default c.args.accesses.now c.loop-i.i c.args.access none c.loop-i-test.true ∙ c.same_access.ensures c.if-same_access.true)
