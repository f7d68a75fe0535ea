use Rattle.mr_rust_order.proofs.OneList.{one_list}
use Rattle.mr_rust_order.proofs.TestLaws.{rust_races_are}
use Rattle.mr_rust_order.proofs.laws.one_list.Goals as goal

pub returns : goal.returns
returns c = record { list = rust_races_are; only = one_list }
