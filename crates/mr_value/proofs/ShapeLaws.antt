-- The equations of `has_shape`, and which values have the shape of each kind of type.
use Rattle.mr_value.proofs.Common.{◌≡◌, ℕ, ◌*◌, ◌^◌, Bool, true, List, [], ◌∷◌, map, refl, sym, ap, ◌∙◌, ◌&&◌, ◌==◌, nat_lt, length, and_parts, IntType, Num, Tree, Ty, roll-Ty, Ty-F, map-Ty, para-Variant, para-roll-Ty, para-roll-Variant, Variant, out-Variant, Pointer, int_size, Val, out-Val, Bytes, ValueTest, elements_pass, chunks_size, variant_passes, has_shape, fields_have_shape, variant_has_shape}
use Rattle.mr_value.specs.declared.val.Val.TheOpen.{Val-F}
use Rattle.mr_value.specs.Shape.{shape_step}
use Rattle.mr_ast.specs.declared.types.Ty.TheVariants as ty
use Rattle.mr_value.specs.declared.val.Val.TheVariants as val
use Rattle.mr_value.proofs.ValCases.{is_int, is_bool, is_ptr, is_tuple, is_union, is_variant}

unfoldable variant_test : Variant → ValueTest
variant_test = para-Variant ValueTest ValueTest (λ layer v. shape_step layer (out-Val v)) (λ v. v.ty.1)

-- one level, at a type that is made of it
shape_roll : (d : Ty-F Ty Variant) (v : Val) → has_shape (roll-Ty d) v ≡ shape_step (map-Ty Ty Variant (Ty × ValueTest) (Variant × ValueTest) (λ t. (t, has_shape t)) (λ w. (w, variant_test w)) d) (out-Val v)
unfolding has_shape variant_test
shape_roll d v = ap (λ (test : ValueTest). test v) (para-roll-Ty ValueTest ValueTest (λ layer v. shape_step layer (out-Val v)) (λ v. v.ty.1) d)

variant_test_is : (w : Variant) (v : Val) → variant_test w v ≡ has_shape w.ty v
unfolding has_shape variant_test
variant_test_is w v = ap (λ (test : ValueTest). test v) (para-roll-Variant ValueTest ValueTest (λ layer v. shape_step layer (out-Val v)) (λ v. v.ty.1) (out-Variant w))

variant_passes_is : (variants : List Variant) (n : Num) (v : Val) → variant_passes (map (λ w. (w, variant_test w)) variants) n v ≡ variant_has_shape variants n v
variant_passes_is [] n v = refl
variant_passes_is (w ∷ variants) n v = rw (variant_test_is w v, variant_passes_is variants n v)

-- an integer of the type's width
pub record IsInt (int : IntType) (v : Val) : Type 0 where
  pub bits : ℕ
  pub is : v ≡ val.Int bits
  pub fits : nat_lt bits (2 ^ (8 * int_size int)) ≡ true

pub shape_int : (int : IntType) (v : Val) → has_shape (ty.Int int) v ≡ true → IsInt int v
shape_int int v e = by_layer (out-Val v) refl (sym (ap (λ t. has_shape t v) (sym (ty.rolls-Int int)) ∙ shape_roll (Ty-F.Int int) v) ∙ e)
  where
    by_layer : (x : Val-F Val) → out-Val v ≡ x → shape_step (Ty-F.Int int) x ≡ true → IsInt int v
    by_layer (Val-F.Int n) is h = record { bits = n; is = is_int v n is; fits = h }
    by_layer _ is h = absurd (cc)

pub record IsBool (v : Val) : Type 0 where
  pub truth : Bool
  pub is : v ≡ val.Bool truth

pub shape_bool : (v : Val) → has_shape ty.Bool v ≡ true → IsBool v
shape_bool v e = by_layer (out-Val v) refl (sym (ap (λ t. has_shape t v) (sym ty.rolls-Bool) ∙ shape_roll Ty-F.Bool v) ∙ e)
  where
    by_layer : (x : Val-F Val) → out-Val v ≡ x → shape_step Ty-F.Bool x ≡ true → IsBool v
    by_layer (Val-F.Bool b) is h = record { truth = b; is = is_bool v b is }
    by_layer _ is h = absurd (cc)

pub record IsPtr (v : Val) : Type 0 where
  pub pointer : Pointer
  pub is : v ≡ val.Ptr pointer

pub shape_raw : (v : Val) → has_shape ty.Raw v ≡ true → IsPtr v
shape_raw v e = by_layer (out-Val v) refl (sym (ap (λ t. has_shape t v) (sym ty.rolls-Raw) ∙ shape_roll Ty-F.Raw v) ∙ e)
  where
    by_layer : (x : Val-F Val) → out-Val v ≡ x → shape_step Ty-F.Raw x ≡ true → IsPtr v
    by_layer (Val-F.Ptr p) is h = record { pointer = p; is = is_ptr v p is }
    by_layer _ is h = absurd (cc)

pub shape_fn_ptr : (v : Val) → has_shape ty.FnPtr v ≡ true → IsPtr v
shape_fn_ptr v e = by_layer (out-Val v) refl (sym (ap (λ t. has_shape t v) (sym ty.rolls-FnPtr) ∙ shape_roll Ty-F.FnPtr v) ∙ e)
  where
    by_layer : (x : Val-F Val) → out-Val v ≡ x → shape_step Ty-F.FnPtr x ≡ true → IsPtr v
    by_layer (Val-F.Ptr p) is h = record { pointer = p; is = is_ptr v p is }
    by_layer _ is h = absurd (cc)

pub shape_ref : (size align : ℕ) (never : Bool) (v : Val) → has_shape (ty.Ref size align never) v ≡ true → IsPtr v
shape_ref size align never v e = by_layer (out-Val v) refl (sym (ap (λ t. has_shape t v) (sym (ty.rolls-Ref size align never)) ∙ shape_roll (Ty-F.Ref size align never) v) ∙ e)
  where
    by_layer : (x : Val-F Val) → out-Val v ≡ x → shape_step (Ty-F.Ref size align never) x ≡ true → IsPtr v
    by_layer (Val-F.Ptr p) is h = record { pointer = p; is = is_ptr v p is }
    by_layer _ is h = absurd (cc)

-- one value for each field
pub record IsTuple (fields : List (ℕ × Ty)) (v : Val) : Type 0 where
  pub values : List Val
  pub is : v ≡ val.Tuple values
  pub shaped : fields_have_shape fields values ≡ true

pub shape_tuple : (size align : ℕ) (fields : List (ℕ × Ty)) (v : Val) → has_shape (ty.Tuple size align fields) v ≡ true → IsTuple fields v
shape_tuple size align fields v e = by_layer (out-Val v) refl (sym (ap (λ t. has_shape t v) (sym (ty.rolls-Tuple size align fields)) ∙ shape_roll (Ty-F.Tuple size align fields) v) ∙ e)
  where
    by_layer : (x : Val-F Val) → out-Val v ≡ x → shape_step (Ty-F.Tuple size align (map (λ (f : ℕ × Ty). (f.0, (f.1, has_shape f.1))) fields)) x ≡ true → IsTuple fields v
    by_layer (Val-F.Tuple vs) is h = record { values = vs; is = is_tuple v vs is; shaped = h }
    by_layer _ is h = absurd (cc)

-- so many values of the element's shape
pub record IsArray (count : ℕ) (elem : Ty) (v : Val) : Type 0 where
  pub values : List Val
  pub is : v ≡ val.Tuple values
  pub counted : (length values == count) ≡ true
  pub shaped : elements_pass (has_shape elem) values ≡ true

pub shape_array : (count : ℕ) (elem : Ty) (v : Val) → has_shape (ty.Array count elem) v ≡ true → IsArray count elem v
shape_array count elem v e = by_layer (out-Val v) refl (sym (ap (λ t. has_shape t v) (sym (ty.rolls-Array count elem)) ∙ shape_roll (Ty-F.Array count elem) v) ∙ e)
  where
    by_layer : (x : Val-F Val) → out-Val v ≡ x → shape_step (Ty-F.Array count (elem, has_shape elem)) x ≡ true → IsArray count elem v
    by_layer (Val-F.Tuple vs) is h =
        let p = and_parts (length vs == count) (elements_pass (has_shape elem) vs) h in
        record { values = vs; is = is_tuple v vs is; counted = p.0; shaped = p.1 }
    by_layer _ is h = absurd (cc)

-- as many bytes as the chunks have
pub record IsUnion (chunks : List (ℕ × ℕ)) (v : Val) : Type 0 where
  pub content : Bytes
  pub is : v ≡ val.Union content
  pub sized : (length content == chunks_size chunks) ≡ true

pub shape_union : (size align : ℕ) (fields : List (ℕ × Ty)) (chunks : List (ℕ × ℕ)) (v : Val) → has_shape (ty.Union size align fields chunks) v ≡ true → IsUnion chunks v
shape_union size align fields chunks v e =
    by_layer (out-Val v) refl (sym (ap (λ t. has_shape t v) (sym (ty.rolls-Union size align fields chunks)) ∙ shape_roll (Ty-F.Union size align fields chunks) v) ∙ e)
  where
    by_layer : (x : Val-F Val) → out-Val v ≡ x → shape_step (Ty-F.Union size align [] chunks) x ≡ true → IsUnion chunks v
    by_layer (Val-F.Union bytes) is h = record { content = bytes; is = is_union v bytes is; sized = h }
    by_layer _ is h = absurd (cc)

-- a variant with a value of its shape
pub record IsVariant (variants : List Variant) (v : Val) : Type 0 where
  pub number : Num
  pub value : Val
  pub is : v ≡ val.Variant number value
  pub shaped : variant_has_shape variants number value ≡ true

pub shape_enum : (size align : ℕ) (disc : IntType) (variants : List Variant) (tree : Tree) (v : Val) → has_shape (ty.Enum size align disc variants tree) v ≡ true → IsVariant variants v
shape_enum size align disc variants tree v e =
    by_layer (out-Val v) refl (sym (ap (λ t. has_shape t v) (sym (ty.rolls-Enum size align disc variants tree)) ∙ shape_roll (Ty-F.Enum size align disc variants tree) v) ∙ e)
  where
    by_layer : (x : Val-F Val) → out-Val v ≡ x → shape_step (Ty-F.Enum size align disc (map (λ (w : Variant). (w, variant_test w)) variants) tree) x ≡ true → IsVariant variants v
    by_layer (Val-F.Variant n x) is h = record { number = n; value = x; is = is_variant v n x is; shaped = sym (variant_passes_is variants n x) ∙ h }
    by_layer _ is h = absurd (cc)

-- at a value of the right form
pub has_int : (int : IntType) (n : ℕ) → has_shape (ty.Int int) (val.Int n) ≡ nat_lt n (2 ^ (8 * int_size int))
has_int int n =
    ap (λ t. has_shape t (val.Int n)) (sym (ty.rolls-Int int)) ∙ shape_roll (Ty-F.Int int) (val.Int n) ∙ ap (shape_step (Ty-F.Int int)) (val.outs-Int n)

pub has_bool : (b : Bool) → has_shape ty.Bool (val.Bool b) ≡ true
has_bool b = ap (λ t. has_shape t (val.Bool b)) (sym ty.rolls-Bool) ∙ shape_roll Ty-F.Bool (val.Bool b) ∙ ap (shape_step Ty-F.Bool) (val.outs-Bool b)

pub has_raw : (p : Pointer) → has_shape ty.Raw (val.Ptr p) ≡ true
has_raw p = ap (λ t. has_shape t (val.Ptr p)) (sym ty.rolls-Raw) ∙ shape_roll Ty-F.Raw (val.Ptr p) ∙ ap (shape_step Ty-F.Raw) (val.outs-Ptr p)

pub has_fn_ptr : (p : Pointer) → has_shape ty.FnPtr (val.Ptr p) ≡ true
has_fn_ptr p = ap (λ t. has_shape t (val.Ptr p)) (sym ty.rolls-FnPtr) ∙ shape_roll Ty-F.FnPtr (val.Ptr p) ∙ ap (shape_step Ty-F.FnPtr) (val.outs-Ptr p)

pub has_ref : (size align : ℕ) (never : Bool) (p : Pointer) → has_shape (ty.Ref size align never) (val.Ptr p) ≡ true
has_ref size align never p =
    ap (λ t. has_shape t (val.Ptr p)) (sym (ty.rolls-Ref size align never)) ∙ shape_roll (Ty-F.Ref size align never) (val.Ptr p) ∙ ap (shape_step (Ty-F.Ref size align never)) (val.outs-Ptr p)

pub has_tuple : (size align : ℕ) (fields : List (ℕ × Ty)) (vs : List Val) → has_shape (ty.Tuple size align fields) (val.Tuple vs) ≡ fields_have_shape fields vs
has_tuple size align fields vs =
    ap (λ t. has_shape t (val.Tuple vs)) (sym (ty.rolls-Tuple size align fields)) ∙ shape_roll (Ty-F.Tuple size align fields) (val.Tuple vs)
    ∙ ap (shape_step (Ty-F.Tuple size align (map (λ (f : ℕ × Ty). (f.0, (f.1, has_shape f.1))) fields))) (val.outs-Tuple vs)

pub has_array : (count : ℕ) (elem : Ty) (vs : List Val) → has_shape (ty.Array count elem) (val.Tuple vs) ≡ ((length vs == count) && elements_pass (has_shape elem) vs)
has_array count elem vs =
    ap (λ t. has_shape t (val.Tuple vs)) (sym (ty.rolls-Array count elem)) ∙ shape_roll (Ty-F.Array count elem) (val.Tuple vs)
    ∙ ap (shape_step (Ty-F.Array count (elem, has_shape elem))) (val.outs-Tuple vs)

pub has_union : (size align : ℕ) (fields : List (ℕ × Ty)) (chunks : List (ℕ × ℕ)) (content : Bytes) → has_shape (ty.Union size align fields chunks) (val.Union content) ≡ (length content == chunks_size chunks)
has_union size align fields chunks content =
    ap (λ t. has_shape t (val.Union content)) (sym (ty.rolls-Union size align fields chunks)) ∙ shape_roll (Ty-F.Union size align fields chunks) (val.Union content)
    ∙ ap (shape_step (Ty-F.Union size align [] chunks)) (val.outs-Union content)

pub has_enum : (size align : ℕ) (disc : IntType) (variants : List Variant) (tree : Tree) (n : Num) (v : Val) → has_shape (ty.Enum size align disc variants tree) (val.Variant n v) ≡ variant_has_shape variants n v
has_enum size align disc variants tree n v =
    ap (λ t. has_shape t (val.Variant n v)) (sym (ty.rolls-Enum size align disc variants tree)) ∙ shape_roll (Ty-F.Enum size align disc variants tree) (val.Variant n v)
    ∙ ap (shape_step (Ty-F.Enum size align disc (map (λ (w : Variant). (w, variant_test w)) variants) tree)) (val.outs-Variant n v)
    ∙ variant_passes_is variants n v

pub ruleset shape_laws = (has_int, has_bool, has_raw, has_fn_ptr, has_ref, has_tuple, has_array, has_union, has_enum)
