use Rattle.mr_rust_order.proofs.PlainLaws.{plain_agrees, same_races}
use Rattle.mr_rust_order.proofs.laws.plain_runs_agree.Goals as goal

pub returns : goal.returns
returns c = record { order = plain_agrees; races = same_races }
