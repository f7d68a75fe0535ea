use Rattle.mr_event.proofs.Tests.{predicted_none, predicted_some}
use Rattle.mr_event.proofs.races.predicted_plain.Goals as goal
use Rattle.mr_event.proofs.races.predicted_plain.Goals.{in-Some+in_ok-push, in_default}

pub loop-j-preserved : goal.loop-j-preserved
loop-j-preserved c =
    record {
      clocks = c.in_ok-first.ensures.clocks;
      pairs = elim c.match-branch-3.branch [
        | in-Some+in_ok-push w ↦ rw (w.pairs-is, w.in_ok-push.ensures.items) (predicted_some _ _ _ _ c.loop-j.invariant.pairs (rw w.in-Some.is at c.in_ok-first.ensures.partner))
        | in_default w ↦ rw w.pairs-is (predicted_none _ _ _ c.loop-j.invariant.pairs (rw w.in_default.is at c.in_ok-first.ensures.partner))
      ];
    }
