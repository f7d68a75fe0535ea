use Rattle.mr_value.proofs.Common.{◌≡◌, true, drop, length, Ty, are_tags, with_tags}
use Rattle.mr_value.proofs.encoding.write_tags.Given as goal

abbrev pub invariant-loop-tag : goal.invariant-loop-tag
invariant-loop-tag l = record {
  ok : (t : Ty) × (are_tags (length l.bytes.items) t (drop l.tag-index l.tags) ≡ true);
  all : with_tags l.tags l.initial.bytes.items ≡ with_tags (drop l.tag-index l.tags) l.bytes.items;
}
