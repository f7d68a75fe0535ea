use Rattle.mr_picture.proofs.WayLaws.{led_before, way_leads}
use Rattle.mr_picture.proofs.order_laws.ways_are_the_order.Goals as goal

pub returns-clause-leads : goal.returns-clause-leads
returns-clause-leads c = λ run i j before. way_leads run i j before

pub returns-clause-before : goal.returns-clause-before
returns-clause-before c = λ run i j steps lt is. led_before run i j steps lt is
