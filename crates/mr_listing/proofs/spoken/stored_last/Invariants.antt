use Rattle.mr_listing.proofs.Common.{◌≡◌, drop}
use Rattle.mr_listing.specs.Spoken.{later, stored_last}
use Rattle.mr_listing.proofs.spoken.stored_last.Given as goal

-- what is found so far gives way to what a later step stored
abbrev pub invariant-loop-k : goal.invariant-loop-k
invariant-loop-k l = stored_last 0 l.reached l.feet ≡ later (stored_last l.k l.reached (drop l.k l.feet)) l.last
