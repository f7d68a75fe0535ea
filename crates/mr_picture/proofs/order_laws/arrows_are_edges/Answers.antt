use Rattle.mr_picture.proofs.ArrowLaws.{arrow_is, next_is_edge}
use Rattle.mr_picture.proofs.order_laws.arrows_are_edges.Goals as goal

pub returns : goal.returns
returns c = record {
  within = λ run span a h. let is = arrow_is run span a h in (is.low, is.rising, is.high);
  edge = λ run span a h. let is = arrow_is run span a h in next_is_edge is.before is.next;
  apart = λ run span a h. (arrow_is run span a h).apart;
  needed = λ run span a h. (arrow_is run span a h).next;
}
