use Rattle.mr_clocks.proofs.Common.{◌≡◌, false, IsWalking}
use Rattle.mr_clocks.proofs.rows.follow_row.Given as goal

abbrev pub invariant-loop-walk : goal.invariant-loop-walk
invariant-loop-walk l =
    record {
      clock : l.clock ≡ l.initial.clock;
      changed : l.walk.changed ≡ false;
      walking : IsWalking l.run l.j l.walk.end l.links l.row l.walk.whole l.walk.by.items;
    }

abbrev pub decreases-loop-walk : goal.decreases-loop-walk
decreases-loop-walk l = l.walk.end
