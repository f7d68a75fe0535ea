use Rattle.mr_layout.proofs.Common.{◌≡◌, true, length, drop, are_tags_inside, is_some_tag_mark}
use Rattle.mr_layout.proofs.tables.is_some_tag_mark.Given as goal

abbrev pub invariant-loop-tag : goal.invariant-loop-tag
invariant-loop-tag l =
    (is_some_tag_mark l.table l.start l.tags ≡ is_some_tag_mark l.table l.start (drop l.tag-index l.tags)) × (are_tags_inside l.start (length l.table) (drop l.tag-index l.tags) ≡ true)
