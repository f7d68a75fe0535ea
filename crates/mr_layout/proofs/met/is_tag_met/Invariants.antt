use Rattle.mr_layout.proofs.Common.{◌≡◌, drop, is_tag_met}
use Rattle.mr_layout.proofs.met.is_tag_met.Given as goal

abbrev pub invariant-loop-tag : goal.invariant-loop-tag
invariant-loop-tag l = is_tag_met l.tags l.start l.end l.ranges ≡ is_tag_met (drop l.tag-index l.tags) l.start l.end l.ranges
