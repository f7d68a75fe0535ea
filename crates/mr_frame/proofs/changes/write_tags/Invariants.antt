use Rattle.mr_frame.proofs.Common.{◌≡◌, ℕ, drop, true, Ty, are_tags, seen, tagged}
use Rattle.mr_frame.proofs.changes.write_tags.Given as goal

abbrev pub invariant-loop-tag : goal.invariant-loop-tag
invariant-loop-tag l = record {
  tags : tagged l.fn.m l.p l.tags (seen l.fn.n) ≡ tagged l.m l.p (drop l.tag-index l.tags) (seen l.n);
  fit : (size : ℕ) × (t : Ty) × (are_tags size t (drop l.tag-index l.tags) ≡ true);
}
