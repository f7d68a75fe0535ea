use Rattle.mr_layout.proofs.Common.{◌≡◌, false, drop, are_unmarked, is_past}
use Rattle.mr_layout.proofs.marked.are_unmarked.Given as goal

abbrev pub invariant-loop-field : goal.invariant-loop-field
invariant-loop-field l = (are_unmarked l.fields l.table ≡ are_unmarked (drop l.field-index l.fields) l.table) × (is_past l.end (drop l.field-index l.fields) ≡ false)
