-- The equations of `is_faithful`, at values of each type's shape.
use Rattle.mr_value.proofs.Common.{◌≡◌, ℕ, Bool, List, [], ◌∷◌, map, refl, sym, ap, ◌∙◌, not, ◌&&◌, IntType, Num, Tree, Ty, roll-Ty, Ty-F, map-Ty, para-Variant, para-roll-Ty, para-roll-Variant, Variant, out-Variant, Pointer, Val, out-Val, is_not_null, is_aligned, walk, encoding_of, is_found, is_faithful, fields_faithful, variant_faithful, ValueTest, elements_pass, variant_passes}
use Rattle.mr_value.specs.Faithful.{faithful_step, variant_faithful_step}
use Rattle.mr_ast.specs.ShapedTypes.{fits_u64}
use Rattle.mr_ast.specs.declared.types.Ty.TheVariants as ty
use Rattle.mr_value.specs.declared.val.Val.TheVariants as val

unfoldable variant_test : Variant → ValueTest
variant_test = para-Variant ValueTest ValueTest (λ layer v. faithful_step layer (out-Val v)) variant_faithful_step

-- one level, at a type that is made of it
faithful_roll : (d : Ty-F Ty Variant) (v : Val) → is_faithful (roll-Ty d) v ≡ faithful_step (map-Ty Ty Variant (Ty × ValueTest) (Variant × ValueTest) (λ t. (t, is_faithful t)) (λ w. (w, variant_test w)) d) (out-Val v)
unfolding is_faithful variant_test
faithful_roll d v = ap (λ (test : ValueTest). test v) (para-roll-Ty ValueTest ValueTest (λ layer v. faithful_step layer (out-Val v)) variant_faithful_step d)

pub faithful_raw : (p : Pointer) → is_faithful ty.Raw (val.Ptr p) ≡ fits_u64 p.addr
faithful_raw p = ap (λ t. is_faithful t (val.Ptr p)) (sym ty.rolls-Raw) ∙ faithful_roll Ty-F.Raw (val.Ptr p) ∙ ap (faithful_step Ty-F.Raw) (val.outs-Ptr p)

pub faithful_fn_ptr : (p : Pointer) → is_faithful ty.FnPtr (val.Ptr p) ≡ (fits_u64 p.addr && is_not_null p.addr)
faithful_fn_ptr p = ap (λ t. is_faithful t (val.Ptr p)) (sym ty.rolls-FnPtr) ∙ faithful_roll Ty-F.FnPtr (val.Ptr p) ∙ ap (faithful_step Ty-F.FnPtr) (val.outs-Ptr p)

pub faithful_ref : (size align : ℕ) (never : Bool) (p : Pointer) → is_faithful (ty.Ref size align never) (val.Ptr p) ≡ (fits_u64 p.addr && (is_aligned align p.addr && not never))
faithful_ref size align never p =
    ap (λ t. is_faithful t (val.Ptr p)) (sym (ty.rolls-Ref size align never)) ∙ faithful_roll (Ty-F.Ref size align never) (val.Ptr p) ∙ ap (faithful_step (Ty-F.Ref size align never)) (val.outs-Ptr p)

pub faithful_tuple : (size align : ℕ) (fields : List (ℕ × Ty)) (vs : List Val) → is_faithful (ty.Tuple size align fields) (val.Tuple vs) ≡ fields_faithful fields vs
faithful_tuple size align fields vs =
    ap (λ t. is_faithful t (val.Tuple vs)) (sym (ty.rolls-Tuple size align fields)) ∙ faithful_roll (Ty-F.Tuple size align fields) (val.Tuple vs)
    ∙ ap (faithful_step (Ty-F.Tuple size align (map (λ (f : ℕ × Ty). (f.0, (f.1, is_faithful f.1))) fields))) (val.outs-Tuple vs)

pub faithful_array : (count : ℕ) (elem : Ty) (vs : List Val) → is_faithful (ty.Array count elem) (val.Tuple vs) ≡ elements_pass (is_faithful elem) vs
faithful_array count elem vs =
    ap (λ t. is_faithful t (val.Tuple vs)) (sym (ty.rolls-Array count elem)) ∙ faithful_roll (Ty-F.Array count elem) (val.Tuple vs)
    ∙ ap (faithful_step (Ty-F.Array count (elem, is_faithful elem))) (val.outs-Tuple vs)

variant_test_is : (w : Variant) (v : Val) → variant_test w v ≡ is_faithful w.ty v
unfolding is_faithful variant_test
variant_test_is w v = ap (λ (test : ValueTest). test v) (para-roll-Variant ValueTest ValueTest (λ layer v. faithful_step layer (out-Val v)) variant_faithful_step (out-Variant w))

abbrev with_test : Variant → Variant × ValueTest
with_test w = (w, variant_test w)

variant_passes_is : (variants : List Variant) (n : Num) (v : Val) → variant_passes (map with_test variants) n v ≡ variant_faithful variants n v
variant_passes_is [] n v = refl
variant_passes_is (w ∷ variants) n v = rw (variant_test_is w v, variant_passes_is variants n v)

alone : (variants : List Variant) → map (λ (w : Variant × ValueTest). w.0) (map with_test variants) ≡ variants
alone [] = refl
alone (w ∷ variants) = ap (λ (x : List Variant). w ∷ x) (alone variants)

pub faithful_enum : (size align : ℕ) (disc : IntType) (variants : List Variant) (tree : Tree) (n : Num) (v : Val)
    → is_faithful (ty.Enum size align disc variants tree) (val.Variant n v) ≡ (is_found n (walk tree (encoding_of (ty.Enum size align disc variants tree) (val.Variant n v))) && variant_faithful variants n v)
faithful_enum size align disc variants tree n v =
    ap (λ t. is_faithful t (val.Variant n v)) (sym (ty.rolls-Enum size align disc variants tree)) ∙ faithful_roll (Ty-F.Enum size align disc variants tree) (val.Variant n v)
    ∙ ap (faithful_step (Ty-F.Enum size align disc (map with_test variants) tree)) (val.outs-Variant n v)
    ∙ ap (λ (x : List Variant). is_found n (walk tree (encoding_of (ty.Enum size align disc x tree) (val.Variant n v))) && variant_passes (map with_test variants) n v) (alone variants)
    ∙ ap (λ t. is_found n (walk tree (encoding_of (ty.Enum size align disc variants tree) (val.Variant n v))) && t) (variant_passes_is variants n v)

pub ruleset faithful_laws = (faithful_raw, faithful_fn_ptr, faithful_ref, faithful_tuple, faithful_array, faithful_enum)
