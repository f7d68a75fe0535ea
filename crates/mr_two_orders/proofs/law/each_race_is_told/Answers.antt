use Rattle.mr_two_orders.proofs.ToldLaws.{told_once}
use Rattle.mr_two_orders.proofs.law.each_race_is_told.Goals as goal

pub returns : goal.returns
returns c = told_once
