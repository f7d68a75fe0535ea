use Rattle.std.proofs.Common.{◌≡◌, drop}
use Rattle.mr_refusals.specs.Lines.{behind_feeds}
use Rattle.mr_refusals.proofs.lines.start_behind.Given as goal

-- what stands behind those that are left is what stands behind all
abbrev pub invariant-loop-at : goal.invariant-loop-at
invariant-loop-at l = behind_feeds l.left (drop l.at l.text) ≡ behind_feeds l.count l.text
