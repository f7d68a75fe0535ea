-- What is asked of each part of a list and of each two of them, apart; and the two as pairs of numbers.
use Rattle.mr_layout.proofs.Common.{◌≡◌, ℕ, ◌+◌, ◌<◌, Bool, true, false, List, [], ◌∷◌, ◌++◌, drop, length, get_or, take, map, refl, sym, ap, ◌∙◌, arith, ◌||◌, not, ◌&&◌, ◌==◌, nat_le, nat_lt, if◌then◌else◌, list_any, or_parts, nat_tests, drop_more, IntType, Num, Tag, Tree, Ty, Variant, int_size, is_fitting, not_empty, variant_key, case_key, tag_range, field_range, number_twice, case_twice, tags_meeting, each_variant, are_tags_fitting, is_some_tag_used, are_tags_alone, is_variant_tag_used, each_case, same_num, is_number_of, are_variants, meets_tag, is_some_used, are_tags, are_all_tags, is_case, is_tree, are_tree_cases, is_past, meets_any, is_overlapping, meets_chunk, is_chunk_overlapping, size_of, align_of}
use Rattle.std.proofs.lemmas.List.{map-append, take_more}
use Rattle.std.proofs.lemmas.List.Sorted.{list_any-IsPermutation}
use Rattle.mr_base.specs.Pairs.{some_pair, same_pair, are_meeting}
use Rattle.mr_base.proofs.Twins.{some_pair_not_empty}
use Rattle.mr_layout.specs.Alike.{AreKeys, number_key}

past_three : (a b c d t e : Bool) → (a && (b && (c && (not d && (not t && e))))) ≡ (not (d || t) && (a && (b && (c && e))))
past_three false b c true t e = refl
past_three false b c false true e = refl
past_three false b c false false e = refl
past_three true false c true t e = refl
past_three true false c false true e = refl
past_three true false c false false e = refl
past_three true true false true t e = refl
past_three true true false false true e = refl
past_three true true false false false e = refl
past_three true true true true t e = refl
past_three true true true false true e = refl
past_three true true true false false e = refl

past_one : (a b d t e : Bool) → (a && (not d && (b && (not t && e)))) ≡ (not (d || t) && (a && (b && e)))
past_one false b true t e = refl
past_one false b false true e = refl
past_one false b false false e = refl
past_one true false true t e = refl
past_one true false false true e = refl
past_one true false false false e = refl
past_one true true true t e = refl
past_one true true false true e = refl
past_one true true false false e = refl

-- the variants of an enum: no number twice, and each in order
pub are_variants_apart : (size align : ℕ) (disc : IntType) (variants : List Variant) → are_variants size align disc variants ≡ (not (number_twice variants) && each_variant size align disc variants)
are_variants_apart size align disc [] = refl
are_variants_apart size align disc (v ∷ variants) =
    ap (λ r. (size_of v.ty == size) && (nat_le (align_of v.ty) align && (is_fitting disc v.number && (not (is_number_of v.number variants) && r)))) (are_variants_apart size align disc variants)
    ∙ past_three (size_of v.ty == size) (nat_le (align_of v.ty) align) (is_fitting disc v.number) (is_number_of v.number variants) (number_twice variants) (each_variant size align disc variants)

past_four : (a b d t u v x : Bool) → (a && (b && (not d && (not u && (not t && (x && not v)))))) ≡ (not (d || t) && ((a && (b && x)) && not (u || v)))
past_four false b true t u v x = refl
past_four false b false true u v x = refl
past_four false b false false u v x = refl
past_four true false true t u v x = refl
past_four true false false true u v x = refl
past_four true false false false u v x = refl
past_four true true true t u v x = refl
past_four true true false true true v x = refl
past_four true true false true false v x = refl
past_four true true false false true v true = refl
past_four true true false false true v false = refl
past_four true true false false false v x = refl

-- the tags of a variant: no two meet, each fits, and none has a used byte
pub are_tags_apart : (size : ℕ) (t : Ty) (tags : List Tag) → are_tags size t tags ≡ (not (tags_meeting tags) && (are_tags_fitting size tags && not (is_some_tag_used t tags)))
are_tags_apart size t [] = refl
are_tags_apart size t (g ∷ tags) =
    ap (λ r. nat_le (g.at + int_size g.int) size && (is_fitting g.int g.number && (not (meets_tag g tags) && (not (is_some_used t g.at (int_size g.int)) && r)))) (are_tags_apart size t tags)
    ∙ past_four (nat_le (g.at + int_size g.int) size) (is_fitting g.int g.number) (meets_tag g tags) (tags_meeting tags) (is_some_used t g.at (int_size g.int)) (is_some_tag_used t tags) (are_tags_fitting size tags)

apart_two : (m f u a x : Bool) → ((not m && (f && not u)) && (a && not x)) ≡ (((not m && f) && a) && not (u || x))
apart_two true f u a x = refl
apart_two false false u a x = refl
apart_two false true true true x = refl
apart_two false true true false x = refl
apart_two false true false a x = refl

-- the tags of all variants: what is asked of those of each alone, and that no variant's type uses a byte of one
pub all_tags_apart : (size : ℕ) (variants : List Variant) → are_all_tags size variants ≡ (are_tags_alone size variants && not (is_variant_tag_used variants))
all_tags_apart size [] = refl
all_tags_apart size (v ∷ variants) =
    (λ i. are_tags_apart size v.ty v.tags i && all_tags_apart size variants i)
    ∙ apart_two (tags_meeting v.tags) (are_tags_fitting size v.tags) (is_some_tag_used v.ty v.tags) (are_tags_alone size variants) (is_variant_tag_used variants)

-- the cases of a branch: none twice, and each in order
pub are_cases_apart : (size : ℕ) (variants : List Variant) (i : IntType) (cases : List (Num × Tree)) → are_tree_cases size variants i cases ≡ (not (case_twice cases) && each_case size variants i cases)
are_cases_apart size variants i [] = refl
are_cases_apart size variants i (c ∷ cases) =
    ap (λ r. is_fitting i c.0 && (not (is_case c.0 cases) && (is_tree size variants c.1 && r))) (are_cases_apart size variants i cases)
    ∙ past_one (is_fitting i c.0) (is_tree size variants c.1) (is_case c.0 cases) (case_twice cases) (each_case size variants i cases)

eq_flips : (m n : ℕ) → (m == n) ≡ (n == m)
eq_flips m n = grind (arith, nat_tests)

same_key_at : (x y : Bool) (m n : ℕ) → ((if x then y else not y) && (m == n)) ≡ same_pair ((if y then 1 else 0), n) ((if x then 1 else 0), m)
same_key_at true true m n = eq_flips m n
same_key_at true false m n = refl
same_key_at false true m n = refl
same_key_at false false m n = eq_flips m n

-- two numbers are written alike where their pairs are equal
same_key : (a b : Num) → same_num b a ≡ same_pair (number_key a) (number_key b)
same_key a b = same_key_at b.neg a.neg b.mag a.mag

is_number_of_keys : (n : Num) (variants : List Variant) → is_number_of n variants ≡ list_any (same_pair (number_key n)) (map variant_key variants)
is_number_of_keys n [] = refl
is_number_of_keys n (v ∷ variants) = (λ i. same_key n v.number i || is_number_of_keys n variants i)

-- a variant has the number where it stands among the numbers of the variants, in whichever order
pub known_keys : (n : Num) (variants : List Variant) (keys : List (ℕ × ℕ)) → AreKeys variants keys → list_any (same_pair (number_key n)) keys ≡ is_number_of n variants
known_keys n variants keys h = sym (is_number_of_keys n variants ∙ list_any-IsPermutation (same_pair (number_key n)) (map variant_key variants) keys h.moved)

pub number_twice_keys : (variants : List Variant) → some_pair same_pair (map variant_key variants) ≡ number_twice variants
number_twice_keys [] = refl
number_twice_keys (v ∷ variants) = (λ i. sym (is_number_of_keys v.number variants) i || number_twice_keys variants i)

is_case_keys : (n : Num) (cases : List (Num × Tree)) → is_case n cases ≡ list_any (same_pair (number_key n)) (map case_key cases)
is_case_keys n [] = refl
is_case_keys n (c ∷ cases) = (λ i. same_key n c.0 i || is_case_keys n cases i)

pub case_twice_keys : (cases : List (Num × Tree)) → some_pair same_pair (map case_key cases) ≡ case_twice cases
case_twice_keys [] = refl
case_twice_keys (c ∷ cases) = (λ i. sym (is_case_keys c.0 cases) i || case_twice_keys cases i)

meets_tag_ranges : (t : Tag) (tags : List Tag) → list_any (are_meeting (tag_range t)) (map tag_range tags) ≡ meets_tag t tags
meets_tag_ranges t [] = refl
meets_tag_ranges t (u ∷ tags) = ap (λ b. are_meeting (tag_range t) (tag_range u) || b) (meets_tag_ranges t tags)

tags_meeting_ranges : (tags : List Tag) → some_pair are_meeting (map tag_range tags) ≡ tags_meeting tags
tags_meeting_ranges [] = refl
tags_meeting_ranges (t ∷ tags) = (λ i. meets_tag_ranges t tags i || tags_meeting_ranges tags i)

meets_any_ranges : (start len : ℕ) (fields : List (ℕ × Ty)) → list_any (are_meeting (start, len)) (map field_range fields) ≡ meets_any start len fields
meets_any_ranges start len [] = refl
meets_any_ranges start len (f ∷ fields) = ap (λ b. are_meeting (start, len) (field_range f) || b) (meets_any_ranges start len fields)

overlapping_ranges : (fields : List (ℕ × Ty)) → some_pair are_meeting (map field_range fields) ≡ is_overlapping fields
overlapping_ranges [] = refl
overlapping_ranges (f ∷ fields) = (λ i. meets_any_ranges f.0 (size_of f.1) fields i || overlapping_ranges fields i)

meets_chunk_ranges : (start len : ℕ) (chunks : List (ℕ × ℕ)) → list_any (are_meeting (start, len)) chunks ≡ meets_chunk start len chunks
meets_chunk_ranges start len [] = refl
meets_chunk_ranges start len (c ∷ chunks) = ap (λ b. are_meeting (start, len) c || b) (meets_chunk_ranges start len chunks)

chunk_overlapping_ranges : (chunks : List (ℕ × ℕ)) → some_pair are_meeting chunks ≡ is_chunk_overlapping chunks
chunk_overlapping_ranges [] = refl
chunk_overlapping_ranges (c ∷ chunks) = (λ i. meets_chunk_ranges c.0 c.1 chunks i || chunk_overlapping_ranges chunks i)

-- the same of the ranges that have a byte
pub tags_meeting_some : (tags : List Tag) → some_pair are_meeting (not_empty (map tag_range tags)) ≡ tags_meeting tags
tags_meeting_some tags = some_pair_not_empty (map tag_range tags) ∙ tags_meeting_ranges tags

pub overlapping_some : (fields : List (ℕ × Ty)) → some_pair are_meeting (not_empty (map field_range fields)) ≡ is_overlapping fields
overlapping_some fields = some_pair_not_empty (map field_range fields) ∙ overlapping_ranges fields

pub chunk_overlapping_some : (chunks : List (ℕ × ℕ)) → some_pair are_meeting (not_empty chunks) ≡ is_chunk_overlapping chunks
chunk_overlapping_some chunks = some_pair_not_empty chunks ∙ chunk_overlapping_ranges chunks

not_empty_append : (rs ss : List (ℕ × ℕ)) → not_empty (rs ++ ss) ≡ not_empty rs ++ not_empty ss
not_empty_append [] ss = refl
not_empty_append (r ∷ rs) ss = by (not_empty_append rs ss) (nat_lt 0 r.1) refl
  where
    by : not_empty (rs ++ ss) ≡ not_empty rs ++ not_empty ss → (b : Bool) → nat_lt 0 r.1 ≡ b → not_empty ((r ∷ rs) ++ ss) ≡ not_empty (r ∷ rs) ++ not_empty ss
    by rest true e = ap (λ b. if b then r ∷ not_empty (rs ++ ss) else not_empty (rs ++ ss)) e ∙ ap (λ l. r ∷ l) rest ∙ sym (ap (λ b. (if b then r ∷ not_empty rs else not_empty rs) ++ not_empty ss) e)
    by rest false e = ap (λ b. if b then r ∷ not_empty (rs ++ ss) else not_empty (rs ++ ss)) e ∙ rest ∙ sym (ap (λ b. (if b then r ∷ not_empty rs else not_empty rs) ++ not_empty ss) e)

-- one more range
pub not_empty_more : {A : Type 0} (f : A → ℕ × ℕ) (xs : List A) (i : ℕ) (d : A) → i < length xs
    → not_empty (map f (take (i + 1) xs)) ≡ not_empty (map f (take i xs)) ++ not_empty (f (get_or xs i d) ∷ [])
not_empty_more f xs i d inside =
    ap (λ l. not_empty (map f l)) (take_more xs i d inside) ∙ ap not_empty (map-append f (take i xs) (get_or xs i d ∷ []))
    ∙ not_empty_append (map f (take i xs)) (f (get_or xs i d) ∷ [])

-- a loop that puts a range behind others, unless it is empty
pub not_empty_step : {A : Type 0} (f : A → ℕ × ℕ) (xs : List A) (i : ℕ) (d : A) → i < length xs → (old new : List (ℕ × ℕ)) → old ≡ not_empty (map f (take i xs))
    → (x : ℕ × ℕ) → x ≡ f (get_or xs i d) → new ≡ old ++ not_empty (x ∷ []) → new ≡ not_empty (map f (take (i + 1) xs))
not_empty_step f xs i d inside old new before x same pushed =
    pushed ∙ ap (λ l. l ++ not_empty (x ∷ [])) before ∙ ap (λ y. not_empty (map f (take i xs)) ++ not_empty (y ∷ [])) same ∙ sym (not_empty_more f xs i d inside)

pub not_empty_next : (xs : List (ℕ × ℕ)) (i : ℕ) (d : ℕ × ℕ) → i < length xs → (old new : List (ℕ × ℕ)) → old ≡ not_empty (take i xs)
    → new ≡ old ++ not_empty (get_or xs i d ∷ []) → new ≡ not_empty (take (i + 1) xs)
not_empty_next xs i d inside old new before pushed =
    pushed ∙ ap (λ l. l ++ not_empty (get_or xs i d ∷ [])) before
    ∙ sym (ap not_empty (take_more xs i d inside) ∙ not_empty_append (take i xs) (get_or xs i d ∷ []))

-- what is left behind a field that lies inside
pub past_next : (end : ℕ) (fields : List (ℕ × Ty)) (i : ℕ) (d : ℕ × Ty) → i < length fields → is_past end (drop i fields) ≡ false → is_past end (drop (i + 1) fields) ≡ false
past_next end fields i d inside none =
    let f = get_or fields i d in
    (or_parts (nat_lt end (f.0 + size_of f.1)) (is_past end (drop (i + 1) fields)) (sym (ap (is_past end) (drop_more fields i d inside)) ∙ none)).1
