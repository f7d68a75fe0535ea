use Rattle.mr_runs.proofs.Common.{take, AreOf}
use Rattle.mr_runs.proofs.run.are_all_of.Given as goal

abbrev pub invariant-loop-byte : goal.invariant-loop-byte
invariant-loop-byte l = AreOf l.provenance (take l.byte-index l.bytes)
