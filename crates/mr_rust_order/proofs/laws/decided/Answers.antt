use Rattle.mr_rust_order.proofs.TestLaws.{happens_before_is, has_edge_is, has_race_is}
use Rattle.mr_rust_order.proofs.laws.decided.Goals as goal

pub returns : goal.returns
returns c = record { edges = has_edge_is; before = happens_before_is; race = has_race_is }
