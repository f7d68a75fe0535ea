use Rattle.mr_next.proofs.Common.{◌≡◌, ◌+◌, ◌<◌, ◌∙◌, ap, arith, false, length, sym, Standing, breaks_with}
use Rattle.mr_next.proofs.Finding.{find_behind}
use Rattle.mr_next.proofs.culprits.first_culprit.Goals as goal

pub loop-at-preserved : goal.loop-at-preserved
loop-at-preserved c =
    let e = c.args.entry.now in
    let at = c.loop-at.at in
    let less : at < length e.picks = omega (arith, c.loop-at-test.true, c.len-count.ensures) in
    let same = c.loop-at.invariant.same in
    let none : breaks_with c.args.machine.now.look c.args.machine.now.config e c.args.code (at + 1) ≡ false =
    sym (ap (λ (m : Standing). breaks_with m.look m.config e c.args.code (at + 1)) same)
    ∙ sym c.in_ok-breaks_with.ensures.breaks ∙ c.if-branch.false in
    record {
      same = c.in_ok-breaks_with.ensures.same ∙ same;
      rest = c.loop-at.invariant.rest ∙ find_behind _ at (length e.picks) less none;
    }
