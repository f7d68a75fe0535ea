use Rattle.mr_exchange.proofs.Common.{arith, length-map, step_at}
use Rattle.std.proofs.Common.{add-one}
use Rattle.mr_exchange.proofs.Rearranged.{none_in_rearranged, none_reported}
use Rattle.mr_exchange.proofs.rearranging.rearranged_has_none.Goals as goal

pub returns : goal.returns
returns c =
    record {
      none = λ run o r none p q lt. none_in_rearranged run o r none p q (omega (arith, lt, length-map o (step_at run)));
      calm = λ run k none lt. rw add-one (none_reported run none k (omega (arith, lt)));
    }
