use Rattle.mr_layout.proofs.Common.{map, take, AreTypesOf}
use Rattle.mr_layout.proofs.cache.Cache.new.Given as goal

abbrev pub invariant-loop-t : goal.invariant-loop-t
invariant-loop-t l = AreTypesOf l.cache (map (λ t. t.now) (take l.t-index l.t-items))
