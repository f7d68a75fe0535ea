use Rattle.mr_layout.proofs.Common.{◌≡◌, drop, are_tags_fitting}
use Rattle.mr_layout.proofs.enum_rules.are_tags_fitting.Given as goal

abbrev pub invariant-loop-tag : goal.invariant-loop-tag
invariant-loop-tag l = are_tags_fitting l.size l.tags ≡ are_tags_fitting l.size (drop l.tag-index l.tags)
