-- The equations of `place_script` and `value_script`, one for each kind of place and value.
use Rattle.mr_eval.proofs.Common.{◌≡◌, ℕ, true, false, List, [], ◌∷◌, map, refl, sym, ap, ◌∙◌, pos, slice_get, IntType, Num, Ty, FnName, GlobalName, LocalName, UnaryOp, BinaryOp, Place, roll-Place, Value, roll-Value, Pointer, Val, bits_of_number, Done, ◌>>=◌, type_of_place, type_of_value, ReadScript, behind, moved, binary_of, cast_value, index_of_value, or_ill_formed, pointer_of_value, unary_of, Surround, as_variant, bare, discriminant_at, element_at, elements_in, loaded, offset_in, place_script, stored, transmuted, union_of, value_script, values_script}
use Rattle.mr_ast.specs.declared.expr.Place.TheOpen.{Place-F, Value-F}
use Rattle.mr_ast.specs.declared.expr.Place.TheFolds.{map-Place, map-Value, para-roll-Place, para-roll-Value}
use Rattle.mr_eval.specs.Evaluation.{in_order, place_step, value_step}
use Rattle.mr_ast.specs.declared.expr.Place.TheVariants as place
use Rattle.mr_ast.specs.declared.expr.Value.TheVariants as value
use Rattle.mr_value.specs.declared.val.Val.TheVariants as val

abbrev Located : Type 0
Located = Place × ReadScript Pointer

abbrev Valued : Type 0
Valued = Value × ReadScript Val

module _ (s : Surround) where
  abbrev with_pointer : Place → Located
  with_pointer p = (p, place_script s p)

  abbrev with_value : Value → Valued
  with_value v = (v, value_script s v)

  -- one level, at a place and a value that are made of it
  place_roll : (d : Place-F Place Value) → place_script s (roll-Place d) ≡ place_step s (map-Place Place Value Located Valued with_pointer with_value d)
  unfolding place_script value_script
  place_roll d = para-roll-Place (ReadScript Pointer) (ReadScript Val) (place_step s) (value_step s) d

  value_roll : (d : Value-F Place Value) → value_script s (roll-Value d) ≡ value_step s (map-Value Place Value Located Valued with_pointer with_value d)
  unfolding place_script value_script
  value_roll d = para-roll-Value (ReadScript Pointer) (ReadScript Val) (place_step s) (value_step s) d

  in_order_is : (vs : List Value) → in_order (map with_value vs) ≡ values_script s vs
  in_order_is [] = refl
  in_order_is (v ∷ vs) = ap (λ (r : ReadScript (List Val)). value_script s v >>= (λ x. r >>= (λ xs. Done (x ∷ xs)))) (in_order_is vs)

  pub script_local : (x : LocalName) → place_script s (place.Local x) ≡ (stored (slice_get s.storage x.0))
  script_local x = ap (place_script s) (sym (place.rolls-Local x)) ∙ place_roll (Place-F.Local x)

  pub script_deref : (v : Value) (t : Ty) → place_script s (place.Deref v t) ≡ (value_script s v >>= pointer_of_value)
  script_deref v t = ap (place_script s) (sym (place.rolls-Deref v t)) ∙ place_roll (Place-F.Deref v t)

  pub script_field : (p : Place) (k : ℕ) → place_script s (place.Field p k) ≡ (place_script s p >>= (λ a. or_ill_formed (offset_in (type_of_place s.locals p) k) >>= (λ o. moved a (pos o))))
  script_field p k = ap (place_script s) (sym (place.rolls-Field p k)) ∙ place_roll (Place-F.Field p k)

  pub script_index : (p : Place) (i : Value) → place_script s (place.Index p i) ≡ (place_script s p >>= (λ a. value_script s i >>= (λ v. index_of_value v >>= (λ n. or_ill_formed (elements_in (type_of_place s.locals p)) >>= element_at a n))))
  script_index p i = ap (place_script s) (sym (place.rolls-Index p i)) ∙ place_roll (Place-F.Index p i)

  pub script_variant_place : (p : Place) (n : Num) → place_script s (place.Variant p n) ≡ (place_script s p >>= as_variant (type_of_place s.locals p) n)
  script_variant_place p n = ap (place_script s) (sym (place.rolls-Variant p n)) ∙ place_roll (Place-F.Place::Variant p n)

  pub script_int : (i : IntType) (n : Num) → value_script s (value.Int i n) ≡ (Done (val.Int (bits_of_number i n)))
  script_int i n = ap (value_script s) (sym (value.rolls-Int i n)) ∙ value_roll (Value-F.Int i n)

  pub script_true : value_script s value.True ≡ (Done (val.Bool true))
  script_true = ap (value_script s) (sym (value.rolls-True)) ∙ value_roll (Value-F.True)

  pub script_false : value_script s value.False ≡ (Done (val.Bool false))
  script_false = ap (value_script s) (sym (value.rolls-False)) ∙ value_roll (Value-F.False)

  pub script_raw : (a : ℕ) → value_script s (value.Raw a) ≡ (Done (val.Ptr (bare a)))
  script_raw a = ap (value_script s) (sym (value.rolls-Raw a)) ∙ value_roll (Value-F.Raw a)

  pub script_fn : (f : FnName) → value_script s (value.Fn f) ≡ (or_ill_formed (slice_get s.functions f.0) >>= (λ p. Done (val.Ptr p)))
  script_fn f = ap (value_script s) (sym (value.rolls-Fn f)) ∙ value_roll (Value-F.Fn f)

  pub script_global : (g : GlobalName) (k : ℕ) → value_script s (value.Global g k) ≡ (or_ill_formed (slice_get s.globals g.0) >>= (λ p. Done (val.Ptr (behind p k))))
  script_global g k = ap (value_script s) (sym (value.rolls-Global g k)) ∙ value_roll (Value-F.Global g k)

  pub script_union : (t : Ty) (k : ℕ) (v : Value) → value_script s (value.Union t k v) ≡ (value_script s v >>= union_of t k)
  script_union t k v = ap (value_script s) (sym (value.rolls-Union t k v)) ∙ value_roll (Value-F.Union t k v)

  pub script_variant : (t : Ty) (n : Num) (v : Value) → value_script s (value.Variant t n v) ≡ (value_script s v >>= (λ x. Done (val.Variant n x)))
  script_variant t n v = ap (value_script s) (sym (value.rolls-Variant t n v)) ∙ value_roll (Value-F.Value::Variant t n v)

  pub script_load : (p : Place) → value_script s (value.Load p) ≡ (place_script s p >>= loaded (type_of_place s.locals p))
  script_load p = ap (value_script s) (sym (value.rolls-Load p)) ∙ value_roll (Value-F.Load p)

  pub script_disc : (p : Place) → value_script s (value.Disc p) ≡ (place_script s p >>= discriminant_at (type_of_place s.locals p))
  script_disc p = ap (value_script s) (sym (value.rolls-Disc p)) ∙ value_roll (Value-F.Disc p)

  pub script_addr_of : (t : Ty) (p : Place) → value_script s (value.AddrOf t p) ≡ (place_script s p >>= (λ a. Done (val.Ptr a)))
  script_addr_of t p = ap (value_script s) (sym (value.rolls-AddrOf t p)) ∙ value_roll (Value-F.AddrOf t p)

  pub script_cast : (i : IntType) (v : Value) → value_script s (value.Cast i v) ≡ (value_script s v >>= cast_value i (type_of_value s.locals v))
  script_cast i v = ap (value_script s) (sym (value.rolls-Cast i v)) ∙ value_roll (Value-F.Cast i v)

  pub script_transmute : (t : Ty) (v : Value) → value_script s (value.Transmute t v) ≡ (value_script s v >>= transmuted t (type_of_value s.locals v))
  script_transmute t v = ap (value_script s) (sym (value.rolls-Transmute t v)) ∙ value_roll (Value-F.Transmute t v)

  pub script_unary : (o : UnaryOp) (v : Value) → value_script s (value.Unary o v) ≡ (value_script s v >>= unary_of o (type_of_value s.locals v))
  script_unary o v = ap (value_script s) (sym (value.rolls-Unary o v)) ∙ value_roll (Value-F.Unary o v)

  pub script_binary : (o : BinaryOp) (a b : Value) → value_script s (value.Binary o a b) ≡ (value_script s a >>= (λ x. value_script s b >>= binary_of o (type_of_value s.locals a) (type_of_value s.locals b) x))
  script_binary o a b = ap (value_script s) (sym (value.rolls-Binary o a b)) ∙ value_roll (Value-F.Binary o a b)

  pub script_tuple : (t : Ty) (vs : List Value) → value_script s (value.Tuple t vs) ≡ (values_script s vs >>= (λ xs. Done (val.Tuple xs)))
  script_tuple t vs =
      ap (value_script s) (sym (value.rolls-Tuple t vs)) ∙ value_roll (Value-F.Tuple t vs)
      ∙ ap (λ (r : ReadScript (List Val)). r >>= (λ xs. Done (val.Tuple xs))) (in_order_is vs)
