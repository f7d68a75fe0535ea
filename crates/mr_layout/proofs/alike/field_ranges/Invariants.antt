use Rattle.mr_layout.proofs.Common.{◌≡◌, false, drop, map, take, not_empty, field_range, is_past}
use Rattle.mr_layout.proofs.alike.field_ranges.Given as goal

abbrev pub invariant-loop-field : goal.invariant-loop-field
invariant-loop-field l = (l.ranges.items ≡ not_empty (map field_range (take l.field-index l.fields))) × (is_past l.end (drop l.field-index l.fields) ≡ false)
