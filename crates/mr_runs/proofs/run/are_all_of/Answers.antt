use Rattle.mr_runs.proofs.Common.{both_ways, Uninit}
use Rattle.mr_runs.proofs.InPlaceLaws.{are_of_at}
use Rattle.mr_runs.proofs.run.are_all_of.Goals as goal

pub returns-then-not-is_of : goal.returns-then-not-is_of
returns-then-not-is_of c = (
  (λ yes. absurd (cc)),
  λ all. absurd (both_ways c.is_of.result c.if-not-is_of.true (c.is_of.ensures.1 (are_of_at c.args.provenance c.args.bytes.now c.loop-byte.byte-index Uninit all c.loop-byte-test.true))),
)
