use Rattle.mr_layout.proofs.Common.{◌≡◌, drop, are_tags_inside}
use Rattle.mr_layout.proofs.tables.are_tags_inside.Given as goal

abbrev pub invariant-loop-tag : goal.invariant-loop-tag
invariant-loop-tag l = are_tags_inside l.start l.end l.tags ≡ are_tags_inside l.start l.end (drop l.tag-index l.tags)
