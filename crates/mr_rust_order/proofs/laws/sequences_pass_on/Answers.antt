use Rattle.mr_rust_order.proofs.OrderLaws.{HappensBefore-before, sequence_before}
use Rattle.mr_rust_order.proofs.laws.sequences_pass_on.Goals as goal

pub returns : goal.returns
returns c = record { passed = sequence_before; forward = λ run i j h. HappensBefore-before h }
