-- Whether a byte of a tag is used, by the ranges of the tags.
use Rattle.mr_layout.proofs.Common.{◌≡◌, ℕ, zero, suc, ◌+◌, ◌-◌, ◌<◌, ◌≤◌, Bool, true, false, List, [], ◌∷◌, map, refl, sym, ap, ◌∙◌, arith, nat_lt, nat_le, ◌&&◌, ◌||◌, list_any, and_parts, and_from, and_right, nat_tests, Tag, Ty, int_size, is_fitting, not_empty, tag_range, are_tags_fitting, is_some_tag_used, is_some_used, is_in, is_in_part, is_in_chunk, is_used, is_some_below, is_met, le_from, lt_test, le_test, not_lt_test}
use Rattle.std.specs.List.Sorted.{IsPermutation}
use Rattle.std.proofs.lemmas.List.Sorted.{list_any-IsPermutation}
use Rattle.mr_layout.proofs.Below.{none_below, same_tests}
use Rattle.mr_layout.proofs.GapLaws.{in_not_empty}
use Rattle.mr_layout.proofs.RowLaws.{met_none, met_one}

no_part : (b : Bool) → (b && false) ≡ false
no_part true = refl
no_part false = refl

-- below its start a range has no byte
before : (t : Ty) (start len k : ℕ) → k < start → (is_in_part 0 (is_used t) k && (is_in start len k || false)) ≡ false
before t start len k l = ap (λ b. is_in_part 0 (is_used t) k && ((b && nat_lt k (start + len)) || false)) low ∙ no_part (is_in_part 0 (is_used t) k)
  where
    low : nat_le start k ≡ false
    low = grind (arith, nat_tests)

behind : (t : Ty) (start len k : ℕ) → start + len ≤ k → (is_in_part 0 (is_used t) k && (is_in start len k || false)) ≡ false
behind t start len k l =
    ap (λ b. is_in_part 0 (is_used t) k && (b || false)) (and_right (nat_le start k) (nat_lt k (start + len)) (not_lt_test k (start + len) l)) ∙ no_part (is_in_part 0 (is_used t) k)

within : (t : Ty) (start len k : ℕ) → start ≤ k → k < start + len → (is_in_part 0 (is_used t) k && (is_in start len k || false)) ≡ is_used t k
within t start len k l h =
    ap (λ b. is_in_part 0 (is_used t) k && (b || false)) (and_from (nat_le start k) (nat_lt k (start + len)) (le_test start k l) (lt_test k (start + len) h))
    ∙ last (is_in_part 0 (is_used t) k) ∙ (λ i. le_test 0 k (omega arith) i && is_used t (same i))
  where
    same : k - 0 ≡ k
    same = omega arith

    last : (b : Bool) → (b && true) ≡ b
    last true = refl
    last false = refl

-- a range's bytes below one of them
part_used : (t : Ty) (start len n : ℕ) → n ≤ len → is_some_below (λ at. is_in_part 0 (is_used t) at && (is_in start len at || false)) (start + n) ≡ is_some_used t start n
part_used t start len zero h = none_below (λ at. is_in_part 0 (is_used t) at && (is_in start len at || false)) (start + zero) (λ k l. before t start len k (omega arith))
part_used t start len (suc n) h =
    ap (is_some_below (λ at. is_in_part 0 (is_used t) at && (is_in start len at || false))) next
    ∙ (λ i. part_used t start len n (omega arith) i || within t start len (start + n) (omega arith) (omega arith) i)
  where
    next : start + suc n ≡ suc (start + n)
    next = omega arith

further : (t : Ty) (start len more : ℕ) → is_some_below (λ at. is_in_part 0 (is_used t) at && (is_in start len at || false)) ((start + len) + more) ≡ is_some_used t start len
further t start len zero = ap (is_some_below (λ at. is_in_part 0 (is_used t) at && (is_in start len at || false))) same ∙ part_used t start len len (omega arith)
  where
    same : (start + len) + zero ≡ start + len
    same = omega arith
further t start len (suc more) =
    ap (is_some_below (λ at. is_in_part 0 (is_used t) at && (is_in start len at || false))) next
    ∙ (λ i. further t start len more i || behind t start len ((start + len) + more) (omega arith) i) ∙ last (is_some_used t start len)
  where
    next : (start + len) + suc more ≡ suc ((start + len) + more)
    next = omega arith

    last : (b : Bool) → (b || false) ≡ b
    last true = refl
    last false = refl

-- a byte of a range is used where the range meets the type
range_met : (t : Ty) (start len end : ℕ) → start + len ≤ end → is_met (is_used t) 0 end ((start, len) ∷ []) ≡ is_some_used t start len
unfolding is_met
range_met t start len end h = ap (is_some_below (λ at. is_in_part 0 (is_used t) at && (is_in start len at || false))) same ∙ further t start len (end - (start + len))
  where
    same : end ≡ (start + len) + (end - (start + len))
    same = omega arith

tags_met : (size : ℕ) (t : Ty) (tags : List Tag) → are_tags_fitting size tags ≡ true → is_met (is_used t) 0 size (map tag_range tags) ≡ is_some_tag_used t tags
tags_met size t [] e = met_none (is_used t) 0 size
tags_met size t (g ∷ tags) e =
    let p = and_parts (nat_le (g.at + int_size g.int) size) (is_fitting g.int g.number && are_tags_fitting size tags) e in
    let q = and_parts (is_fitting g.int g.number) (are_tags_fitting size tags) p.1 in
    met_one (is_used t) 0 size (tag_range g) (map tag_range tags)
    ∙ (λ i. range_met t g.at (int_size g.int) size (le_from (g.at + int_size g.int) size p.0) i || tags_met size t tags q.1 i)

in_some : (ranges : List (ℕ × ℕ)) (k : ℕ) → is_in_chunk ranges k ≡ list_any (λ (r : ℕ × ℕ). is_in r.0 r.1 k) ranges
in_some [] k = refl
in_some (r ∷ ranges) k = ap (λ b. is_in r.0 r.1 k || b) (in_some ranges k)

-- the ranges in another order, without the empty ones
moved_met : (t : Ty) (end : ℕ) (ranges others : List (ℕ × ℕ)) → IsPermutation (not_empty ranges) others → is_met (is_used t) 0 end others ≡ is_met (is_used t) 0 end ranges
unfolding is_met
moved_met t end ranges others moved =
    same_tests (λ at. is_in_part 0 (is_used t) at && is_in_chunk others at) (λ at. is_in_part 0 (is_used t) at && is_in_chunk ranges at) end
    (λ k l. ap (λ b. is_in_part 0 (is_used t) k && b) (in_some others k
    ∙ sym (list_any-IsPermutation (λ (r : ℕ × ℕ). is_in r.0 r.1 k) (not_empty ranges) others moved) ∙ sym (in_some (not_empty ranges) k) ∙ in_not_empty ranges k))

-- the ranges of tags meet a used byte where a byte of a tag is used
pub sorted_tags : (size : ℕ) (t : Ty) (tags : List Tag) (ranges : List (ℕ × ℕ)) → are_tags_fitting size tags ≡ true → IsPermutation (not_empty (map tag_range tags)) ranges
    → is_met (is_used t) 0 size ranges ≡ is_some_tag_used t tags
sorted_tags size t tags ranges fits moved = moved_met t size (map tag_range tags) ranges moved ∙ tags_met size t tags fits

pub ruleset tag_laws = (sorted_tags)
