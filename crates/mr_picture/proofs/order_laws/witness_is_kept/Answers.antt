use Rattle.mr_picture.proofs.WitnessLaws.{each_once, witness_kept}
use Rattle.mr_picture.proofs.order_laws.witness_is_kept.Goals as goal

pub returns : goal.returns
returns c = record { order = witness_kept; each = each_once }
