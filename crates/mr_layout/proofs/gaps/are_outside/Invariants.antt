use Rattle.mr_layout.proofs.Common.{◌≡◌, false, drop, are_outside, is_past}
use Rattle.mr_layout.proofs.gaps.are_outside.Given as goal

abbrev pub invariant-loop-field : goal.invariant-loop-field
invariant-loop-field l = (are_outside l.fields l.ranges ≡ are_outside (drop l.field-index l.fields) l.ranges) × (is_past l.end (drop l.field-index l.fields) ≡ false)
