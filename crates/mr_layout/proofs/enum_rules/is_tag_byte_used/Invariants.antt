use Rattle.mr_layout.proofs.Common.{◌≡◌, true, drop, are_tags_fitting, is_some_tag_used}
use Rattle.mr_layout.proofs.enum_rules.is_tag_byte_used.Given as goal

abbrev pub invariant-loop-tag : goal.invariant-loop-tag
invariant-loop-tag l = (is_some_tag_used l.t l.tags ≡ is_some_tag_used l.t (drop l.tag-index l.tags)) × (are_tags_fitting l.size (drop l.tag-index l.tags) ≡ true)
