use Rattle.mr_value.proofs.Meanings.{shape_of_meaning}
use Rattle.mr_value.proofs.laws.has_shape.Goals as goal

pub returns : goal.returns
returns c = shape_of_meaning
