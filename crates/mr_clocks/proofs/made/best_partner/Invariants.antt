use Rattle.mr_clocks.proofs.Common.{ℕ, ◌<◌, slice_index, IsPlaceBeyond}
use Rattle.mr_clocks.specs.Tracked.{IsPartnerOr}
use Rattle.mr_clocks.proofs.made.best_partner.Given as goal

abbrev pub invariant-loop-y : goal.invariant-loop-y
invariant-loop-y l =
    record {
      partner : IsPartnerOr l.run l.j l.best;
      beyond : (z : ℕ) → z < l.y → IsPlaceBeyond l.run l.rows l.links (slice_index l.found z) l.j l.best;
    }
