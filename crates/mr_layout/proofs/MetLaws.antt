-- What ranges meet of a type, by the parts of the type.
use Rattle.mr_layout.proofs.Common.{◌≡◌, ℕ, ◌+◌, ◌-◌, ◌≤◌, Bool, true, false, List, [], ◌∷◌, refl, sym, ap, ◌∙◌, arith, nat_lt, nat_le, ◌&&◌, ◌||◌, and_left, nat_tests, IntType, Tag, Tree, Ty, Variant, int_size, Use, is_in, is_in_part, is_in_chunk, is_in_tag, is_used, is_used_field, is_used_in, is_used_variant, is_met, is_run_met, is_field_met, is_chunk_met, is_tag_met, is_variant_met}
use Rattle.mr_ast.specs.declared.types.Ty.TheVariants as ty
use Rattle.mr_layout.proofs.Below.{none_below, same_tests, some_either}
use Rattle.mr_layout.proofs.UsedLaws.{used_int, used_bool, used_raw, used_fn_ptr, used_ref, used_tuple, used_union, used_enum, used_variant_is}

-- nothing lies before an end at or before the start
pub met_past : (part : Use) (start end : ℕ) (ranges : List (ℕ × ℕ)) → end ≤ start → is_met part start end ranges ≡ false
unfolding is_met
met_past part start end ranges h =
    none_below (λ at. is_in_part start part at && is_in_chunk ranges at) end
    (λ k l. let low : nat_le start k ≡ false = grind (arith, nat_tests) in
    and_left (is_in_part start part k) (is_in_chunk ranges k) (and_left (nat_le start k) (part (k - start)) low))

-- parts with the same used bytes
pub met_same : (part other : Use) (start end : ℕ) (ranges : List (ℕ × ℕ)) → ((at : ℕ) → part at ≡ other at) → is_met part start end ranges ≡ is_met other start end ranges
met_same part other start end ranges same = (λ i. is_met (λ at. same at i) start end ranges)

met_never : (start end : ℕ) (ranges : List (ℕ × ℕ)) → is_met (λ at. false) start end ranges ≡ false
unfolding is_met
met_never start end ranges =
    none_below (λ at. is_in_part start (λ at. false) at && is_in_chunk ranges at) end (λ k l. and_left _ (is_in_chunk ranges k) (never (nat_le start k)))
  where
    never : (b : Bool) → (b && false) ≡ false
    never true = refl
    never false = refl

spread : (a b c d : Bool) → ((a && (b || c)) && d) ≡ (((a && b) && d) || ((a && c) && d))
spread false b c d = refl
spread true true c true = refl
spread true true true false = refl
spread true true false false = refl
spread true false c d = refl

-- the bytes of one part or of another
pub met_either : (part other : Use) (start end : ℕ) (ranges : List (ℕ × ℕ))
    → is_met (λ at. part at || other at) start end ranges ≡ (is_met part start end ranges || is_met other start end ranges)
unfolding is_met
met_either part other start end ranges =
    same_tests _ _ end (λ k l. spread (nat_le start k) (part (k - start)) (other (k - start)) (is_in_chunk ranges k))
    ∙ some_either (λ at. is_in_part start part at && is_in_chunk ranges at) (λ at. is_in_part start other at && is_in_chunk ranges at) end

pub part_in : (part : Use) (start inside at : ℕ) → is_in_part start (is_in_part inside part) at ≡ is_in_part (start + inside) part at
part_in part start inside at = by (nat_le start at) (nat_le inside (at - start)) (nat_le (start + inside) at) refl refl refl
  where
    by : (a b c : Bool) → nat_le start at ≡ a → nat_le inside (at - start) ≡ b → nat_le (start + inside) at ≡ c
        → (nat_le start at && (nat_le inside (at - start) && part ((at - start) - inside))) ≡ (nat_le (start + inside) at && part (at - (start + inside)))
    by true true true e f g = let same : (at - start) - inside ≡ at - (start + inside) = omega arith in (λ i. (e ∙ sym g) i && ((f i) && part (same i)))
    by true true false e f g = absurd (clash e f g)
      where
        clash : nat_le start at ≡ true → nat_le inside (at - start) ≡ true → nat_le (start + inside) at ≡ false → ⊥
        clash e f g = grind (arith, nat_tests)
    by true false true e f g = absurd (clash f g)
      where
        clash : nat_le inside (at - start) ≡ false → nat_le (start + inside) at ≡ true → ⊥
        clash f g = grind (arith, nat_tests)
    by true false false e f g = (λ i. e i && (f i && part ((at - start) - inside))) ∙ sym (λ i. g i && part (at - (start + inside)))
    by false b true e f g = absurd (clash e g)
      where
        clash : nat_le start at ≡ false → nat_le (start + inside) at ≡ true → ⊥
        clash e g = grind (arith, nat_tests)
    by false b false e f g = (λ i. e i && (nat_le inside (at - start) && part ((at - start) - inside))) ∙ sym (λ i. g i && part (at - (start + inside)))

-- a part of a part
pub met_part : (part : Use) (start inside end : ℕ) (ranges : List (ℕ × ℕ)) → is_met (is_in_part inside part) start end ranges ≡ is_met part (start + inside) end ranges
unfolding is_met
met_part part start inside end ranges = same_tests _ _ end (λ k l. ap (λ b. b && is_in_chunk ranges k) (part_in part start inside k))

pub run_in : (start len at : ℕ) → (nat_le start at && nat_lt (at - start) len) ≡ is_in start len at
run_in start len at = grind (arith, nat_tests)

-- the first bytes of a part
pub met_first : (part : Use) (len start end : ℕ) (ranges : List (ℕ × ℕ)) → ((at : ℕ) → part at ≡ nat_lt at len) → is_met part start end ranges ≡ is_run_met start len end ranges
unfolding is_met is_run_met
met_first part len start end ranges same =
    same_tests _ _ end (λ k l. ap (λ b. b && is_in_chunk ranges k) (ap (λ b. nat_le start k && b) (same (k - start)) ∙ run_in start len k))

range_in : (start inside len at : ℕ) → is_in_part start (is_in inside len) at ≡ is_in (start + inside) len at
range_in start inside len at = grind (arith, nat_tests)

-- a range of a part
pub met_range : (inside len start end : ℕ) (ranges : List (ℕ × ℕ)) → is_met (is_in inside len) start end ranges ≡ is_run_met (start + inside) len end ranges
unfolding is_met is_run_met
met_range inside len start end ranges = same_tests _ _ end (λ k l. ap (λ b. b && is_in_chunk ranges k) (range_in start inside len k))

fields_met : (fields : List (ℕ × Ty)) (start end : ℕ) (ranges : List (ℕ × ℕ)) → is_met (is_used_field fields) start end ranges ≡ is_field_met fields start end ranges
fields_met [] start end ranges = met_never start end ranges
fields_met (f ∷ fields) start end ranges =
    met_either (is_in_part f.0 (is_used f.1)) (is_used_field fields) start end ranges
    ∙ (λ i. met_part (is_used f.1) start f.0 end ranges i || fields_met fields start end ranges i)

chunks_met : (chunks : List (ℕ × ℕ)) (start end : ℕ) (ranges : List (ℕ × ℕ)) → is_met (is_in_chunk chunks) start end ranges ≡ is_chunk_met chunks start end ranges
chunks_met [] start end ranges = met_never start end ranges
chunks_met (c ∷ chunks) start end ranges =
    met_either (is_in c.0 c.1) (is_in_chunk chunks) start end ranges ∙ (λ i. met_range c.0 c.1 start end ranges i || chunks_met chunks start end ranges i)

tags_met : (tags : List Tag) (start end : ℕ) (ranges : List (ℕ × ℕ)) → is_met (is_in_tag tags) start end ranges ≡ is_tag_met tags start end ranges
tags_met [] start end ranges = met_never start end ranges
tags_met (t ∷ tags) start end ranges =
    met_either (is_in t.at (int_size t.int)) (is_in_tag tags) start end ranges ∙ (λ i. met_range t.at (int_size t.int) start end ranges i || tags_met tags start end ranges i)

variant_met : (v : Variant) (start end : ℕ) (ranges : List (ℕ × ℕ))
    → is_met (is_used_variant v) start end ranges ≡ (is_met (is_used v.ty) start end ranges || is_tag_met v.tags start end ranges)
variant_met v start end ranges =
    met_same (is_used_variant v) (λ at. is_used v.ty at || is_in_tag v.tags at) start end ranges (used_variant_is v)
    ∙ met_either (is_used v.ty) (is_in_tag v.tags) start end ranges ∙ ap (λ b. is_met (is_used v.ty) start end ranges || b) (tags_met v.tags start end ranges)

variants_met : (variants : List Variant) (start end : ℕ) (ranges : List (ℕ × ℕ)) → is_met (is_used_in variants) start end ranges ≡ is_variant_met variants start end ranges
variants_met [] start end ranges = met_never start end ranges
variants_met (v ∷ variants) start end ranges =
    met_either (is_used_variant v) (is_used_in variants) start end ranges ∙ (λ i. variant_met v start end ranges i || variants_met variants start end ranges i)

module _ (start end : ℕ) (ranges : List (ℕ × ℕ)) where
  pub met_int : (i : IntType) → is_met (is_used (ty.Int i)) start end ranges ≡ is_run_met start (int_size i) end ranges
  met_int i = met_first (is_used (ty.Int i)) (int_size i) start end ranges (used_int i)

  pub met_bool : is_met (is_used ty.Bool) start end ranges ≡ is_run_met start 1 end ranges
  met_bool = met_first (is_used ty.Bool) 1 start end ranges used_bool

  pub met_raw : is_met (is_used ty.Raw) start end ranges ≡ is_run_met start 8 end ranges
  met_raw = met_first (is_used ty.Raw) 8 start end ranges used_raw

  pub met_fn_ptr : is_met (is_used ty.FnPtr) start end ranges ≡ is_run_met start 8 end ranges
  met_fn_ptr = met_first (is_used ty.FnPtr) 8 start end ranges used_fn_ptr

  pub met_ref : (size align : ℕ) (never : Bool) → is_met (is_used (ty.Ref size align never)) start end ranges ≡ is_run_met start 8 end ranges
  met_ref size align never = met_first (is_used (ty.Ref size align never)) 8 start end ranges (used_ref size align never)

  pub met_tuple : (size align : ℕ) (fields : List (ℕ × Ty)) → is_met (is_used (ty.Tuple size align fields)) start end ranges ≡ is_field_met fields start end ranges
  met_tuple size align fields = met_same _ (is_used_field fields) start end ranges (used_tuple size align fields) ∙ fields_met fields start end ranges

  pub met_union : (size align : ℕ) (fields : List (ℕ × Ty)) (chunks : List (ℕ × ℕ)) → is_met (is_used (ty.Union size align fields chunks)) start end ranges ≡ is_chunk_met chunks start end ranges
  met_union size align fields chunks = met_same _ (is_in_chunk chunks) start end ranges (used_union size align fields chunks) ∙ chunks_met chunks start end ranges

  pub met_enum : (size align : ℕ) (disc : IntType) (variants : List Variant) (tree : Tree)
      → is_met (is_used (ty.Enum size align disc variants tree)) start end ranges ≡ is_variant_met variants start end ranges
  met_enum size align disc variants tree = met_same _ (is_used_in variants) start end ranges (used_enum size align disc variants tree) ∙ variants_met variants start end ranges

pub ruleset met_laws = (met_int, met_bool, met_raw, met_fn_ptr, met_ref, met_tuple, met_union, met_enum, met_past)
