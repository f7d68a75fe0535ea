use Rattle.mr_listing.proofs.Common.{◌≡◌, drop}
use Rattle.mr_listing.specs.Spoken.{freed_from}
use Rattle.mr_listing.proofs.spoken.freed_at.Given as goal

-- no step so far freed it
abbrev pub invariant-loop-k : goal.invariant-loop-k
invariant-loop-k l = freed_from 0 l.id l.feet ≡ freed_from l.k l.id (drop l.k l.feet)
