use Rattle.mr_layout.proofs.Common.{◌≡◌, drop, is_tag_marked}
use Rattle.mr_layout.proofs.marked.is_tag_marked.Given as goal

abbrev pub invariant-loop-tag : goal.invariant-loop-tag
invariant-loop-tag l = is_tag_marked l.tags l.table ≡ is_tag_marked (drop l.tag-index l.tags) l.table
