-- One turn of a loop over the parts of a type: what a test of those that are left says of the next one.
use Rattle.mr_layout.proofs.Common.{◌≡◌, ℕ, ◌+◌, ◌<◌, ◌≤◌, true, false, List, length, get_or, drop, sym, ap, ◌∙◌, nat_le, not, and_parts, drop_more, Tag, Ty, int_size, is_fitting, meets_tag, is_some_used, are_tags, le_from, not_true}

-- a tag lies inside, has a number that fits, and has no byte in common with a later one or with the used bytes of its variant's type
pub record TagTurn (size : ℕ) (t : Ty) (tags : List Tag) (i : ℕ) (g : Tag) : Type 0 where
  pub inside : g.at + int_size g.int ≤ size
  pub fits : is_fitting g.int g.number ≡ true
  pub apart : meets_tag g (drop (i + 1) tags) ≡ false
  pub unused : is_some_used t g.at (int_size g.int) ≡ false
  pub rest : are_tags size t (drop (i + 1) tags) ≡ true

pub tag_turn : (size : ℕ) (t : Ty) (tags : List Tag) (i : ℕ) (d : Tag) → i < length tags → are_tags size t (drop i tags) ≡ true → TagTurn size t tags i (get_or tags i d)
tag_turn size t tags i d p u =
    let g = get_or tags i d in
    let others = drop (i + 1) tags in
    let a = and_parts (nat_le (g.at + int_size g.int) size) _ (sym (ap (are_tags size t) (drop_more tags i d p)) ∙ u) in
    let b = and_parts (is_fitting g.int g.number) _ a.1 in
    let c = and_parts (not (meets_tag g others)) _ b.1 in
    let e = and_parts (not (is_some_used t g.at (int_size g.int))) (are_tags size t others) c.1 in
    record {
      inside = le_from (g.at + int_size g.int) size a.0;
      fits = b.0;
      apart = not_true _ c.0;
      unused = not_true _ e.0;
      rest = e.1;
    }
