use Rattle.mr_witness.proofs.Common.{AreRivalsBelow}
use Rattle.mr_witness.proofs.shortening.ends_of.Given as goal

abbrev pub invariant-loop-k : goal.invariant-loop-k
invariant-loop-k l = AreRivalsBelow l.run l.j l.k l.ends.items
