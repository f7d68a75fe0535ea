use Rattle.mr_picture.proofs.ArrowLaws.{joined, joined_before}
use Rattle.mr_picture.proofs.order_laws.paths_are_the_order.Goals as goal

pub returns : goal.returns
returns c = λ run span i j low high. (joined_before span, joined run span i j low high)
