-- The equations of `targets_of`, one for each kind of type.
use Rattle.mr_eval.proofs.Common.{◌≡◌, ℕ, List, [], ◌∷◌, ◌++◌, Bool, true, false, ◌≤◌, length, drop, map, append-nil, refl, sym, ap, ◌∙◌, if◌then◌else◌, drop_all, IntType, Num, Tree, Ty, roll-Ty, Ty-F, Variant, same_num, Val, out-Val, Val-F, Targets, element_targets, targets_of, targets_of_fields, targets_of_variant}
use Rattle.mr_ast.specs.declared.types.Ty.TheOpen.{Variant-F}
use Rattle.mr_ast.specs.declared.types.Ty.TheFolds.{map-Ty, para-Variant, para-roll-Ty, para-roll-Variant}
use Rattle.mr_ast.specs.declared.types.Variant.{out-Variant}
use Rattle.mr_eval.specs.Typed.{Finder, field_targets, in_parts, in_variant, pointed, targets_step, variant_targets}
use Rattle.mr_ast.specs.declared.types.Ty.TheVariants as ty

abbrev step : Ty-F (Ty × Finder) (Variant × Finder) → Finder
step layer v = targets_step layer (out-Val v)

abbrev variant_step : Variant-F (Ty × Finder) (Variant × Finder) → Finder
variant_step v = v.ty.1

unfoldable targets_in : Variant → Finder
targets_in = para-Variant Finder Finder step variant_step

target_roll : (d : Ty-F Ty Variant) (v : Val) → targets_of (roll-Ty d) v ≡ step (map-Ty Ty Variant (Ty × Finder) (Variant × Finder) (λ t. (t, targets_of t)) (λ w. (w, targets_in w)) d) v
unfolding targets_of targets_in
target_roll d v = ap (λ (f : Finder). f v) (para-roll-Ty Finder Finder step variant_step d)

targets_in_is : (w : Variant) (v : Val) → targets_in w v ≡ targets_of w.ty v
unfolding targets_of targets_in
targets_in_is w v = ap (λ (f : Finder). f v) (para-roll-Variant Finder Finder step variant_step (out-Variant w))

fields_are : (fields : List (ℕ × Ty)) (vs : List Val) → field_targets (map (λ (f : ℕ × Ty). (f.0, (f.1, targets_of f.1))) fields) vs ≡ targets_of_fields fields vs
fields_are [] vs = refl
fields_are (f ∷ fields) [] = refl
fields_are (f ∷ fields) (v ∷ vs) = ap (λ (more : Targets). targets_of f.1 v ++ more) (fields_are fields vs)

variants_are : (variants : List Variant) (n : Num) (v : Val) → variant_targets (map (λ (w : Variant). (w, targets_in w)) variants) n v ≡ targets_of_variant variants n v
variants_are [] n v = refl
variants_are (w ∷ variants) n v = chosen (same_num w.number n) (variants_are variants n v)
  where
    chosen : (b : Bool) → variant_targets (map (λ (x : Variant). (x, targets_in x)) variants) n v ≡ targets_of_variant variants n v
        → (if b then targets_in w v else variant_targets (map (λ (x : Variant). (x, targets_in x)) variants) n v) ≡ (if b then targets_of w.ty v else targets_of_variant variants n v)
    chosen true e = targets_in_is w v
    chosen false e = e

pub targets_int : (i : IntType) (v : Val) → targets_of (ty.Int i) v ≡ []
targets_int i v = ap (λ (t : Ty). targets_of t v) (sym (ty.rolls-Int i)) ∙ target_roll (Ty-F.Int i) v

pub targets_bool : (v : Val) → targets_of ty.Bool v ≡ []
targets_bool v = ap (λ (t : Ty). targets_of t v) (sym ty.rolls-Bool) ∙ target_roll Ty-F.Bool v

pub targets_raw : (v : Val) → targets_of ty.Raw v ≡ []
targets_raw v = ap (λ (t : Ty). targets_of t v) (sym ty.rolls-Raw) ∙ target_roll Ty-F.Raw v

pub targets_fn_ptr : (v : Val) → targets_of ty.FnPtr v ≡ []
targets_fn_ptr v = ap (λ (t : Ty). targets_of t v) (sym ty.rolls-FnPtr) ∙ target_roll Ty-F.FnPtr v

pub targets_ref : (size align : ℕ) (never : Bool) (v : Val) → targets_of (ty.Ref size align never) v ≡ pointed size (out-Val v)
targets_ref size align never v = ap (λ (t : Ty). targets_of t v) (sym (ty.rolls-Ref size align never)) ∙ target_roll (Ty-F.Ref size align never) v

parts_same : (find more : List Val → Targets) → ((vs : List Val) → find vs ≡ more vs) → (l : Val-F Val) → in_parts find l ≡ in_parts more l
parts_same find more e (Val-F.Tuple vs) = e vs
parts_same find more e _ = refl

variant_same : (find more : Num → Val → Targets) → ((n : Num) (v : Val) → find n v ≡ more n v) → (l : Val-F Val) → in_variant find l ≡ in_variant more l
variant_same find more e (Val-F.Variant n v) = e n v
variant_same find more e _ = refl

pub targets_tuple : (size align : ℕ) (fields : List (ℕ × Ty)) (v : Val) → targets_of (ty.Tuple size align fields) v ≡ in_parts (targets_of_fields fields) (out-Val v)
targets_tuple size align fields v =
    ap (λ (t : Ty). targets_of t v) (sym (ty.rolls-Tuple size align fields)) ∙ target_roll (Ty-F.Tuple size align fields) v
    ∙ parts_same (field_targets (map (λ (f : ℕ × Ty). (f.0, (f.1, targets_of f.1))) fields)) (targets_of_fields fields) (fields_are fields) (out-Val v)

pub targets_array : (count : ℕ) (elem : Ty) (v : Val) → targets_of (ty.Array count elem) v ≡ in_parts (element_targets (targets_of elem)) (out-Val v)
targets_array count elem v = ap (λ (t : Ty). targets_of t v) (sym (ty.rolls-Array count elem)) ∙ target_roll (Ty-F.Array count elem) v

pub targets_union : (size align : ℕ) (fields : List (ℕ × Ty)) (chunks : List (ℕ × ℕ)) (v : Val) → targets_of (ty.Union size align fields chunks) v ≡ []
targets_union size align fields chunks v = ap (λ (t : Ty). targets_of t v) (sym (ty.rolls-Union size align fields chunks)) ∙ target_roll (Ty-F.Union size align fields chunks) v

pub targets_enum : (size align : ℕ) (disc : IntType) (variants : List Variant) (tree : Tree) (v : Val) → targets_of (ty.Enum size align disc variants tree) v ≡ in_variant (targets_of_variant variants) (out-Val v)
targets_enum size align disc variants tree v =
    ap (λ (t : Ty). targets_of t v) (sym (ty.rolls-Enum size align disc variants tree)) ∙ target_roll (Ty-F.Enum size align disc variants tree) v
    ∙ variant_same (variant_targets (map (λ (w : Variant). (w, targets_in w)) variants)) (targets_of_variant variants) (variants_are variants) (out-Val v)

-- fields without values
no_values : (fields : List (ℕ × Ty)) → targets_of_fields fields [] ≡ []
no_values [] = refl
no_values (f ∷ fields) = refl

pub fields_end : (fields : List (ℕ × Ty)) (vs : List Val) (i : ℕ) → length vs ≤ i → targets_of_fields (drop i fields) (drop i vs) ≡ []
fields_end fields vs i le = ap (targets_of_fields (drop i fields)) (drop_all i vs le) ∙ no_values (drop i fields)

-- nothing more
pub nothing_more : (xs ts : Targets) → ts ≡ [] → xs ≡ xs ++ ts
nothing_more xs ts e = sym (ap (λ (more : Targets). xs ++ more) e ∙ append-nil xs)

pub nothing_left : (xs ys ts : Targets) → xs ++ ts ≡ ys → ts ≡ [] → xs ≡ ys
nothing_left xs ys ts h e = nothing_more xs ts e ∙ h

pub ruleset field_ends = (fields_end, nothing_left)

pub ruleset target_laws = (nothing_more, targets_int, targets_bool, targets_raw, targets_fn_ptr, targets_ref, targets_tuple, targets_array, targets_union, targets_enum)
