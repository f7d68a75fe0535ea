-- Which marks a type meets, by the parts of the type; and a union's table, in which the bytes in no chunk are marked.
use Rattle.mr_layout.proofs.Common.{◌≡◌, ℕ, zero, suc, ◌+◌, ◌*◌, ◌%◌, ◌<◌, ◌≤◌, Bool, true, false, List, [], ◌∷◌, refl, sym, ap, ◌∙◌, length, get_or, take, drop, replicate, arith, nat_lt, nat_le, not, ◌&&◌, ◌||◌, slice_index, and_parts, and_from, or_parts, both_ways, nat_tests, length-take, length-drop, get_or-take, get_or-drop, get_or-replicate, drop_more, drop_all, IntType, Tag, Tree, Ty, Variant, int_size, not_empty, le_test, lt_test, size_of, is_past, is_chunk_past, is_rising, is_covered, are_covered, is_used_row, Use, is_in, is_in_part, is_in_chunk, is_in_tag, is_used, is_used_field, is_used_in, is_used_variant, is_some_below, is_run_met, gaps_from, is_mark, is_marked, is_run_marked, is_field_marked, is_chunk_marked, is_tag_marked, is_variant_marked, are_unmarked}
use Rattle.std.proofs.lemmas.Bool.{ltb-false}
use Rattle.mr_ast.specs.declared.types.Ty.TheVariants as ty
use Rattle.mr_layout.proofs.ArrayRows.{used_rows}
use Rattle.mr_layout.proofs.Below.{some_at, none_below, same_tests}
use Rattle.mr_layout.proofs.GapLaws.{in_gaps}
use Rattle.mr_layout.proofs.FoldLaws.{mark_within, marked_never, marked_either, marked_behind, marked_first, marked_lead, marked_run}
use Rattle.mr_layout.proofs.UsedLaws.{used_int, used_bool, used_raw, used_fn_ptr, used_ref, used_tuple, used_array, used_union, used_enum, used_variant_is}

marked_same : (p q : Use) (table : List ℕ) → ((at : ℕ) → p at ≡ q at) → is_marked p table ≡ is_marked q table
marked_same p q table same = (λ i. is_marked (λ at. same at i) table)

fields_marked : (fields : List (ℕ × Ty)) (table : List ℕ) → is_marked (is_used_field fields) table ≡ is_field_marked fields table
fields_marked [] table = marked_never table
fields_marked (f ∷ fields) table =
    marked_either (is_in_part f.0 (is_used f.1)) (is_used_field fields) table
    ∙ (λ i. marked_behind (is_used f.1) f.0 table i || fields_marked fields table i)

chunks_marked : (chunks : List (ℕ × ℕ)) (table : List ℕ) → is_marked (is_in_chunk chunks) table ≡ is_chunk_marked chunks table
chunks_marked [] table = marked_never table
chunks_marked (c ∷ chunks) table =
    marked_either (is_in c.0 c.1) (is_in_chunk chunks) table ∙ (λ i. marked_run c.0 c.1 table i || chunks_marked chunks table i)

tags_marked : (tags : List Tag) (table : List ℕ) → is_marked (is_in_tag tags) table ≡ is_tag_marked tags table
tags_marked [] table = marked_never table
tags_marked (t ∷ tags) table =
    marked_either (is_in t.at (int_size t.int)) (is_in_tag tags) table ∙ (λ i. marked_run t.at (int_size t.int) table i || tags_marked tags table i)

variant_marked : (v : Variant) (table : List ℕ) → is_marked (is_used_variant v) table ≡ (is_marked (is_used v.ty) table || is_tag_marked v.tags table)
variant_marked v table =
    marked_same (is_used_variant v) (λ at. is_used v.ty at || is_in_tag v.tags at) table (used_variant_is v)
    ∙ marked_either (is_used v.ty) (is_in_tag v.tags) table ∙ ap (λ b. is_marked (is_used v.ty) table || b) (tags_marked v.tags table)

variants_marked : (variants : List Variant) (table : List ℕ) → is_marked (is_used_in variants) table ≡ is_variant_marked variants table
variants_marked [] table = marked_never table
variants_marked (v ∷ variants) table =
    marked_either (is_used_variant v) (is_used_in variants) table ∙ (λ i. variant_marked v table i || variants_marked variants table i)

module _ (table : List ℕ) where
  pub marked_int : (i : IntType) → is_marked (is_used (ty.Int i)) table ≡ is_run_marked 0 (int_size i) table
  marked_int i = marked_lead (is_used (ty.Int i)) (int_size i) table (used_int i)

  pub marked_bool : is_marked (is_used ty.Bool) table ≡ is_run_marked 0 1 table
  marked_bool = marked_lead (is_used ty.Bool) 1 table used_bool

  pub marked_raw : is_marked (is_used ty.Raw) table ≡ is_run_marked 0 8 table
  marked_raw = marked_lead (is_used ty.Raw) 8 table used_raw

  pub marked_fn_ptr : is_marked (is_used ty.FnPtr) table ≡ is_run_marked 0 8 table
  marked_fn_ptr = marked_lead (is_used ty.FnPtr) 8 table used_fn_ptr

  pub marked_ref : (size align : ℕ) (never : Bool) → is_marked (is_used (ty.Ref size align never)) table ≡ is_run_marked 0 8 table
  marked_ref size align never = marked_lead (is_used (ty.Ref size align never)) 8 table (used_ref size align never)

  pub marked_tuple : (size align : ℕ) (fields : List (ℕ × Ty)) → is_marked (is_used (ty.Tuple size align fields)) table ≡ is_field_marked fields table
  marked_tuple size align fields = marked_same _ (is_used_field fields) table (used_tuple size align fields) ∙ fields_marked fields table

  pub marked_array : (count : ℕ) (elem : Ty) → is_marked (is_used (ty.Array count elem)) table ≡ is_marked (is_used_row count elem) table
  marked_array count elem = marked_same _ (is_used_row count elem) table (used_array count elem)

  pub marked_union : (size align : ℕ) (fields : List (ℕ × Ty)) (chunks : List (ℕ × ℕ)) → is_marked (is_used (ty.Union size align fields chunks)) table ≡ is_chunk_marked chunks table
  marked_union size align fields chunks = marked_same _ (is_in_chunk chunks) table (used_union size align fields chunks) ∙ chunks_marked chunks table

  pub marked_enum : (size align : ℕ) (disc : IntType) (variants : List Variant) (tree : Tree) → is_marked (is_used (ty.Enum size align disc variants tree)) table ≡ is_variant_marked variants table
  marked_enum size align disc variants tree = marked_same _ (is_used_in variants) table (used_enum size align disc variants tree) ∙ variants_marked variants table

pub ruleset mark_laws = (marked_int, marked_bool, marked_raw, marked_fn_ptr, marked_ref, marked_tuple, marked_array, marked_union, marked_enum)

-- what is looked at of elements in a row
pub row_marked : (count len : ℕ) (elem : Ty) (table : List ℕ) → len ≡ size_of elem
    → is_marked (λ at. is_used elem (at % len)) (take (count * len) table) ≡ is_marked (is_used_row count elem) table
row_marked count len elem table size =
    ap (λ n. is_marked (λ at. is_used elem (at % n)) (take (count * n) table)) size
    ∙ sym (marked_first (λ at. is_used elem (at % size_of elem)) (count * size_of elem) table)

-- arrays in a row are one row
pub rows_marked : (count each all : ℕ) (elem part : Ty) (table : List ℕ) → elem ≡ ty.Array each part → all ≡ count * each
    → is_marked (is_used_row all part) table ≡ is_marked (is_used_row count elem) table
rows_marked count each all elem part table array whole =
    ap (λ n. is_marked (is_used_row n part) table) whole
    ∙ marked_same (is_used_row (count * each) part) (is_used_row count (ty.Array each part)) table (used_rows count each part)
    ∙ sym (ap (λ e. is_marked (is_used_row count e) table) array)

uncovered : (a u i : Bool) → (not a && (not u || i)) ≡ not (a || (u && not i))
uncovered true u i = refl
uncovered false true true = refl
uncovered false true false = refl
uncovered false false i = refl

-- a part is covered where no used byte of it is in no chunk
bytes_covered : (start : ℕ) (t : Ty) (chunks : List (ℕ × ℕ)) (len : ℕ)
    → is_covered start t chunks len ≡ not (is_some_below (λ k. is_used t k && not (is_in_chunk chunks (start + k))) len)
bytes_covered start t chunks zero = refl
bytes_covered start t chunks (suc n) =
    ap (λ b. b && (not (is_used t n) || is_in_chunk chunks (start + n))) (bytes_covered start t chunks n)
    ∙ uncovered (is_some_below (λ k. is_used t k && not (is_in_chunk chunks (start + k))) n) (is_used t n) (is_in_chunk chunks (start + n))

-- a part inside a union whose table has a mark for each byte in no chunk
part_covered : (start len : ℕ) (t : Ty) (chunks : List (ℕ × ℕ)) (table : List ℕ) → start + len ≤ length table
    → ((k : ℕ) → k < length table → is_mark table k ≡ not (is_in_chunk chunks k))
    → not (is_marked (is_used t) (take len (drop start table))) ≡ is_covered start t chunks len
unfolding is_marked
part_covered start len t chunks table inside marks =
    ap (λ n. not (is_some_below (λ k. is_used t k && is_mark (take len (drop start table)) k) n)) long
    ∙ ap not (same_tests (λ k. is_used t k && is_mark (take len (drop start table)) k) (λ k. is_used t k && not (is_in_chunk chunks (start + k))) len
    (λ k l. ap (λ b. is_used t k && b) (at_byte k l)))
    ∙ sym (bytes_covered start t chunks len)
  where
    long : length (take len (drop start table)) ≡ len
    long = omega (arith, length-take len (drop start table), length-drop start table)

    at_byte : (k : ℕ) → k < len → is_mark (take len (drop start table)) k ≡ not (is_in_chunk chunks (start + k))
    at_byte k l =
        let low : start + k < length table = omega arith in
        ap (nat_lt 0) (get_or-take len (drop start table) k 0 l) ∙ ap (nat_lt 0) (get_or-drop start table k 0) ∙ marks (start + k) low

-- fields are covered where they use no marked byte of the table
pub unmarked_covered : (end : ℕ) (fields : List (ℕ × Ty)) (chunks : List (ℕ × ℕ)) (table : List ℕ) → length table ≡ end
    → ((k : ℕ) → k < end → is_mark table k ≡ not (is_in_chunk chunks k)) → is_past end fields ≡ false
    → are_unmarked fields table ≡ are_covered fields chunks
unmarked_covered end [] chunks table long marks e = refl
unmarked_covered end (f ∷ fields) chunks table long marks e =
    let p = or_parts (nat_lt end (f.0 + size_of f.1)) (is_past end fields) e in
    (λ i. part_covered f.0 (size_of f.1) f.1 chunks table (inside p.0) (λ k l. marks k (low k l)) i && unmarked_covered end fields chunks table long marks p.1 i)
  where
    inside : nat_lt end (f.0 + size_of f.1) ≡ false → f.0 + size_of f.1 ≤ length table
    inside h = let k : f.0 + size_of f.1 ≤ end = grind (arith, nat_tests) in omega (arith, long)

    low : (k : ℕ) → k < length table → k < end
    low k l = omega (arith, long)

-- a part that meets no gap uses no marked byte of a table whose marks lie in gaps
pub marked_missed : (part : Use) (start len : ℕ) (gaps : List (ℕ × ℕ)) (table : List ℕ) → ((k : ℕ) → is_mark table k ≡ true → is_in_chunk gaps k ≡ true)
    → is_run_met start len (start + len) gaps ≡ false → is_marked part (take len (drop start table)) ≡ false
unfolding is_marked is_run_met
marked_missed part start len gaps table marks missed =
    none_below (λ k. part k && is_mark (take len (drop start table)) k) (length (take len (drop start table))) (λ k l. none k l (part k && is_mark (take len (drop start table)) k) refl)
  where
    none : (k : ℕ) → k < length (take len (drop start table)) → (b : Bool) → (part k && is_mark (take len (drop start table)) k) ≡ b → (part k && is_mark (take len (drop start table)) k) ≡ false
    none k l false e = e
    none k l true e =
        let low : k < len = omega (arith, length-take len (drop start table)) in
        let within : start + k < start + len = omega arith in
        let from : start ≤ start + k = omega arith in
        let a = and_parts (part k) (is_mark (take len (drop start table)) k) e in
        let mark : is_mark table (start + k) ≡ true = sym (ap (nat_lt 0) (get_or-take len (drop start table) k 0 low) ∙ ap (nat_lt 0) (get_or-drop start table k 0)) ∙ a.1 in
        let run : is_in start len (start + k) ≡ true = and_from (nat_le start (start + k)) (nat_lt (start + k) (start + len)) (le_test start (start + k) from) (lt_test (start + k) (start + len) within) in
        let met = some_at (λ at. is_in start len at && is_in_chunk gaps at) (start + len) (start + k) within (and_from (is_in start len (start + k)) (is_in_chunk gaps (start + k)) run (marks (start + k) mark)) in
        absurd (both_ways (is_some_below (λ at. is_in start len at && is_in_chunk gaps at) (start + len)) missed met)

-- the marks of a union's table lie in the gaps between its chunks
pub marks_in_gaps : (end : ℕ) (chunks gaps : List (ℕ × ℕ)) (table : List ℕ) → gaps ≡ not_empty (gaps_from 0 end chunks) → length table ≡ end → is_rising chunks ≡ true
    → ((k : ℕ) → k < end → is_mark table k ≡ not (is_in_chunk chunks k)) → (k : ℕ) → is_mark table k ≡ true → is_in_chunk gaps k ≡ true
marks_in_gaps end chunks gaps table same long rising marks k e =
    let inside : k < length table = mark_within table k e in
    let low : k < end = omega (arith, long) in
    ap (λ ranges. is_in_chunk ranges k) same ∙ in_gaps end k chunks low rising ∙ sym (marks k low) ∙ e

-- ---- the marks of a union's table, chunk after chunk

marked_still : (m i r : Bool) → ((m && not i) && not r) ≡ (m && not (i || r))
marked_still true true r = refl
marked_still true false r = refl
marked_still false i r = refl

-- a byte's mark, once it is in no part of a chunk
pub chunk_off : (old new : List ℕ) (start len k : ℕ) → (k < start → is_mark new k ≡ is_mark old k) → (start ≤ k → k < start + len → is_mark new k ≡ false)
    → (start + len ≤ k → is_mark new k ≡ is_mark old k) → (chunks : List (ℕ × ℕ))
    → (is_mark new k && not (is_in_chunk chunks k)) ≡ (is_mark old k && not (is_in_chunk ((start, len) ∷ chunks) k))
chunk_off old new start len k before inside after chunks =
    ap (λ b. b && not (is_in_chunk chunks k)) (here (nat_lt k start) (nat_lt k (start + len)) refl refl) ∙ marked_still (is_mark old k) (is_in start len k) (is_in_chunk chunks k)
  where
    and_true : (b : Bool) → b ≡ (b && true)
    and_true true = refl
    and_true false = refl

    and_false : (b : Bool) → false ≡ (b && false)
    and_false true = refl
    and_false false = refl

    here : (a b : Bool) → nat_lt k start ≡ a → nat_lt k (start + len) ≡ b → is_mark new k ≡ (is_mark old k && not (is_in start len k))
    here true b e f =
        let h : k < start = grind (arith, nat_tests) in
        let out : is_in start len k ≡ false = grind (arith, nat_tests) in
        before h ∙ and_true (is_mark old k) ∙ ap (λ x. is_mark old k && not x) (sym out)
    here false true e f =
        let g : start ≤ k = grind (arith, nat_tests) in
        let h : k < start + len = grind (arith, nat_tests) in
        let within : is_in start len k ≡ true = grind (arith, nat_tests) in
        inside g h ∙ and_false (is_mark old k) ∙ ap (λ x. is_mark old k && not x) (sym within)
    here false false e f =
        let h : start + len ≤ k = grind (arith, nat_tests) in
        let out : is_in start len k ≡ false = grind (arith, nat_tests) in
        after h ∙ and_true (is_mark old k) ∙ ap (λ x. is_mark old k && not x) (sym out)

module _ (end i : ℕ) (chunks : List (ℕ × ℕ)) (low : i < length chunks) where
  abbrev chunk_at : ℕ × ℕ
  chunk_at = get_or chunks i (0, 0)

  -- no chunk from one on passes the end
  past_parts : is_chunk_past end (drop i chunks) ≡ false → (nat_lt end (chunk_at.0 + chunk_at.1) ≡ false) × (is_chunk_past end (drop (i + 1) chunks) ≡ false)
  past_parts e =
      or_parts (nat_lt end (chunk_at.0 + chunk_at.1)) (is_chunk_past end (drop (i + 1) chunks)) (sym (ap (is_chunk_past end) (drop_more chunks i (0, 0) low)) ∙ e)

  pub chunk_fits : is_chunk_past end (drop i chunks) ≡ false → chunk_at.0 + chunk_at.1 ≤ end
  chunk_fits e = ltb-false end (chunk_at.0 + chunk_at.1) (past_parts e).0

  pub chunks_fit : is_chunk_past end (drop i chunks) ≡ false → is_chunk_past end (drop (i + 1) chunks) ≡ false
  chunks_fit e = (past_parts e).1

  -- the marks once a chunk more has none
  pub chunk_step : (old new : List ℕ) → ((k : ℕ) → k < chunk_at.0 → slice_index new k ≡ slice_index old k)
      → ((k : ℕ) → chunk_at.0 ≤ k → k < chunk_at.0 + chunk_at.1 → slice_index new k ≡ 0)
      → ((k : ℕ) → chunk_at.0 + chunk_at.1 ≤ k → slice_index new k ≡ slice_index old k)
      → ((k : ℕ) → k < end → (is_mark old k && not (is_in_chunk (drop i chunks) k)) ≡ not (is_in_chunk chunks k))
      → (k : ℕ) → k < end → (is_mark new k && not (is_in_chunk (drop (i + 1) chunks) k)) ≡ not (is_in_chunk chunks k)
  chunk_step old new before inside after so_far k l =
      chunk_off old new chunk_at.0 chunk_at.1 k (λ h. ap (nat_lt 0) (before k h)) (λ g h. ap (nat_lt 0) (inside k g h)) (λ h. ap (nat_lt 0) (after k h)) (drop (i + 1) chunks)
      ∙ ap (λ rest. is_mark old k && not (is_in_chunk rest k)) (sym (drop_more chunks i (0, 0) low))
      ∙ so_far k l

-- a table in which each byte is marked
pub all_marks_of : (end : ℕ) (chunks : List (ℕ × ℕ)) (table : List ℕ) → table ≡ replicate end 1
    → (k : ℕ) → k < end → (is_mark table k && not (is_in_chunk chunks k)) ≡ not (is_in_chunk chunks k)
all_marks_of end chunks table filled k l =
    ap (λ b. b && not (is_in_chunk chunks k)) (ap (λ items. is_mark items k) filled ∙ ap (nat_lt 0) (get_or-replicate end k 1 0 l))

-- all chunks are off
pub chunk_end : (end i : ℕ) (chunks : List (ℕ × ℕ)) (table : List ℕ) → length chunks ≤ i
    → ((k : ℕ) → k < end → (is_mark table k && not (is_in_chunk (drop i chunks) k)) ≡ not (is_in_chunk chunks k))
    → (k : ℕ) → k < end → is_mark table k ≡ not (is_in_chunk chunks k)
chunk_end end i chunks table past so_far k l =
    alone (is_mark table k) ∙ ap (λ rest. is_mark table k && not (is_in_chunk rest k)) (sym (drop_all i chunks past)) ∙ so_far k l
  where
    alone : (b : Bool) → b ≡ (b && true)
    alone true = refl
    alone false = refl
