use Rattle.mr_layout.proofs.Common.{◌≡◌, map, take, not_empty, tag_range}
use Rattle.mr_layout.proofs.alike.tag_ranges.Given as goal

abbrev pub invariant-loop-tag : goal.invariant-loop-tag
invariant-loop-tag l = l.ranges.items ≡ not_empty (map tag_range (take l.tag-index l.tags))
