-- The parts of a well-formed type: a field, an element and a variant are well-formed, and lie where evaluation looks for them.
use Rattle.mr_eval.proofs.Common.{◌≡◌, ℕ, zero, suc, ◌*◌, ◌^◌, ◌<◌, ◌≤◌, List, [], ◌∷◌, Option, Some, Bool, true, false, refl, sym, subst, arith, slice_get, if◌then◌else◌, option_map, same_Some, Num, Ty, out-Ty, roll-Ty, Ty-F, Variant, same_num, size_of, TypeOk, enum_ok, union_ok, element_type, field_in, field_type, variant_among, variant_in, variant_type, type_made, elements_in, offset_in}
use Rattle.mr_layout.proofs.PartFacts.{FieldsOk, PartOk, VariantsOk}
use Rattle.mr_layout.proofs.WellFormed.{array_ok, tuple_ok}
use Rattle.mr_typing.specs.Types.{element_in, field_offset}
use Rattle.mr_eval.specs.Evaluation.{elements}
use Rattle.mr_ast.specs.declared.types.Ty.TheVariants as ty

abbrev Layer : Type 0
Layer = Ty-F Ty Variant

made_ok : (u : Ty) → TypeOk u → TypeOk (roll-Ty (out-Ty u))
made_ok u ok = subst TypeOk (sym (type_made u)) ok

-- ---- fields

-- a field among others: where it begins
pub record FieldAt (size : ℕ) (offset : Option ℕ) (t : Ty) : Type 0 where
  pub at : ℕ
  pub is : offset ≡ Some at
  pub part : PartOk size at t

fields_at : (size : ℕ) (fields : List (ℕ × Ty)) (k : ℕ) (t : Ty) → FieldsOk size fields → option_map (λ f. f.1) (slice_get fields k) ≡ Some t
    → FieldAt size (option_map (λ f. f.0) (slice_get fields k)) t
fields_at size [] k t ok e = absurd (cc)
fields_at size (f ∷ fields) zero t ok e = record { at = f.0; is = refl; part = subst (PartOk size f.0) (same_Some f.1 t e) ok.0 }
fields_at size (f ∷ fields) (suc k) t ok e = fields_at size fields k t ok.1 e

-- how many bytes a type with fields has
abbrev pub whole_size : Layer → ℕ
whole_size (Ty-F.Tuple size align fields) = size
whole_size (Ty-F.Union size align fields chunks) = size
whole_size _ = 0

pub field_ok : (u : Ty) → TypeOk u → (k : ℕ) (t : Ty) → field_type u k ≡ Some t → FieldAt (whole_size (out-Ty u)) (offset_in (Some u) k) t
field_ok u ok k t e = by_layer (out-Ty u) (made_ok u ok) e
  where
    by_layer : (x : Layer) → TypeOk (roll-Ty x) → field_in x k ≡ Some t → FieldAt (whole_size x) (field_offset x k) t
    by_layer (Ty-F.Tuple size align fields) whole h =
        fields_at size fields k t (tuple_ok size align fields (subst TypeOk (ty.rolls-Tuple size align fields) whole)).parts h
    by_layer (Ty-F.Union size align fields chunks) whole h =
        fields_at size fields k t (union_ok size align fields chunks (subst TypeOk (ty.rolls-Union size align fields chunks) whole)).parts h
    by_layer _ whole h = absurd (cc)

-- ---- elements

pub record ElementOf (found : Option (ℕ × ℕ)) (t : Ty) : Type 0 where
  pub count : ℕ
  pub is : found ≡ Some (count, size_of t)
  pub ok : TypeOk t

pub element_ok : (u : Ty) → TypeOk u → (t : Ty) → element_type u ≡ Some t → ElementOf (elements_in (Some u)) t
element_ok u ok t e = by_layer (out-Ty u) (made_ok u ok) e
  where
    by_layer : (x : Layer) → TypeOk (roll-Ty x) → element_in x ≡ Some t → ElementOf (elements x) t
    by_layer (Ty-F.Array count elem) whole h =
        subst (ElementOf (Some (count, size_of elem))) (same_Some elem t h)
        (record { count = count; is = refl; ok = (array_ok count elem (subst TypeOk (ty.rolls-Array count elem) whole)).part })
    by_layer _ whole h = absurd (cc)

-- an array's bytes can be counted
pub elements_small : (u : Ty) (e : ℕ × ℕ) → TypeOk u → elements_in (Some u) ≡ Some e → e.0 * e.1 < 2 ^ 63
elements_small u e ok is = by_layer (out-Ty u) (made_ok u ok) is
  where
    by_layer : (x : Layer) → TypeOk (roll-Ty x) → elements x ≡ Some e → e.0 * e.1 < 2 ^ 63
    by_layer (Ty-F.Array count elem) whole h =
        subst (λ (d : ℕ × ℕ). d.0 * d.1 < 2 ^ 63) (same_Some (count, size_of elem) e h) (few_bytes (array_ok count elem (subst TypeOk (ty.rolls-Array count elem) whole)).small)
      where
        few_bytes : count * size_of elem ≤ 2 ^ 20 → count * size_of elem < 2 ^ 63
        few_bytes le = omega (arith)
    by_layer _ whole h = absurd (cc)

-- ---- variants

chosen_ok : (b : Bool) (size : ℕ) (v : Ty) (rest : Option Ty) (t : Ty) → PartOk size 0 v → (rest ≡ Some t → TypeOk t) → (if b then Some v else rest) ≡ Some t → TypeOk t
chosen_ok true size v rest t ok more e = subst TypeOk (same_Some v t e) ok.ok
chosen_ok false size v rest t ok more e = more e

variants_at : (size : ℕ) (variants : List Variant) (n : Num) (t : Ty) → VariantsOk size variants → variant_among variants n ≡ Some t → TypeOk t
variants_at size [] n t ok e = absurd (cc)
variants_at size (v ∷ variants) n t ok e = chosen_ok (same_num v.number n) size v.ty (variant_among variants n) t ok.0 (variants_at size variants n t ok.2) e

pub variant_ok : (u : Ty) → TypeOk u → (n : Num) (t : Ty) → variant_type u n ≡ Some t → TypeOk t
variant_ok u ok n t e = by_layer (out-Ty u) (made_ok u ok) e
  where
    by_layer : (x : Layer) → TypeOk (roll-Ty x) → variant_in x n ≡ Some t → TypeOk t
    by_layer (Ty-F.Enum size align disc variants tree) whole h =
        variants_at size variants n t (enum_ok size align disc variants tree (subst TypeOk (ty.rolls-Enum size align disc variants tree) whole)).parts h
    by_layer _ whole h = absurd (cc)
