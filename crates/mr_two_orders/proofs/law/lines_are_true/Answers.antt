use Rattle.mr_two_orders.proofs.StandingLaws.{a_link_is_left, in_machines_order, in_rusts_order}
use Rattle.mr_two_orders.proofs.law.lines_are_true.Goals as goal

pub returns : goal.returns
returns c = record { machine = in_machines_order; rust = in_rusts_order; link = a_link_is_left }
