-- The evaluation of an expression that breaks no rule is never ill-formed, and the value has the shape of the expression's type.
use Rattle.mr_eval.proofs.Common.{◌≡◌, ℕ, ◌*◌, ◌^◌, ◌<◌, List, [], ◌∷◌, Option, None, Some, Bool, true, false, length, refl, sym, ap, subst, ◌∙◌, arith, ◌||◌, is_some, nat_lt, pos, if◌then◌else◌, option_map, same_Some, and_parts, plainly, bits_of, IntType, U64, Num, Ty, out-Ty, roll-Ty, Ty-F, Variant, BinaryOp, UnaryOp, Place, Value, FnName, GlobalName, Local, LocalName, Named, is_shaped_place, is_shaped_value, Pointer, TransmuteInvalid, size_of, TypeOk, Val, out-Val, Val-F, bits_of_number, encoding_of, Bytes, has_shape, lt_from, lt_test, eq_from, length-encoding_of, has_bool, has_raw, shape_raw, Done, IllFormed, Undefined, ◌>>=◌, broken_in_place, broken_in_value, is_int, is_raw, chained, discriminant_in, discriminant_type, element_type, field_type, integer_in, integer_of, overflow_type, result_type, type_of_place, type_of_value, variant_type, raw_is, type_made, same_type_equal, behind, moved, meant, binary_of, cast_value, index_of_value, or_ill_formed, pointer_of_value, unary_of, Surround, as_variant, bare, discriminant_at, element_at, elements_in, loaded, offset_in, place_script, stored, transmuted, union_of, value_script, values_script, IsSafe, Stands, any_result}
use Rattle.std.specs.List.{list_all, flat_map}
use Rattle.mr_ast.specs.ShapedTypes.{fits_u64, is_shaped_num, is_shaped_type}
use Rattle.mr_ast.proofs.ExprInduction.{AllValues, ExprCases, place_induction, value_induction}
use Rattle.mr_ast.proofs.ShapedLaws.{shaped_addr_of, shaped_binary, shaped_cast, shaped_deref, shaped_disc, shaped_field_place, shaped_fn, shaped_global, shaped_index_place, shaped_load, shaped_local_place, shaped_transmute, shaped_tuple, shaped_unary, shaped_union, shaped_variant, shaped_variant_place}
use Rattle.mr_base.specs.declared.reason.Reason.TheVariants.{IndexOutOfRange}
use Rattle.mr_layout.proofs.BrokenLaws.{broken_int, broken_bool, broken_raw, broken_fn_ptr}
use Rattle.mr_value.proofs.ShapeLaws.{has_fn_ptr, has_ref, shape_fn_ptr, shape_ref}
use Rattle.mr_typing.specs.Broken.{Surroundings}
use Rattle.mr_typing.specs.Operands.{is_fn_ptr, is_pointer, is_ref, is_ref_layer}
use Rattle.mr_typing.specs.Types.{compares, tells_overflow}
use Rattle.mr_typing.proofs.ExprWalk.{Judges, result_there}
use Rattle.mr_typing.proofs.KindLaws.{fn_ptr_is}
use Rattle.mr_typing.proofs.NothingLaws.{both_nothing}
use Rattle.mr_typing.proofs.TypeLaws.{type_of_addr_of, type_of_binary, type_of_cast, type_of_deref, type_of_disc, type_of_false, type_of_field, type_of_fn, type_of_global, type_of_index, type_of_int, type_of_load, type_of_local, type_of_raw, type_of_transmute, type_of_true, type_of_tuple, type_of_unary, type_of_union, type_of_variant, type_of_variant_place}
use Rattle.mr_typing.proofs.TypedLaws.{TypedPlace, typed_addr_of, typed_binary, typed_cast, typed_deref, typed_disc, typed_field, typed_index, typed_int, typed_load, typed_transmute, typed_tuple, typed_unary, typed_union, typed_variant, typed_variant_place}
use Rattle.mr_eval.specs.Operators.{index_in, pointer_in}
use Rattle.mr_eval.specs.Shapes.{HaveShapes}
use Rattle.mr_base.proofs.Lists.{item_there, all_at}
use Rattle.mr_ast.specs.declared.types.Ty.TheVariants as ty
use Rattle.mr_ast.specs.declared.expr.Place.TheVariants as place
use Rattle.mr_ast.specs.declared.expr.Value.TheVariants as value
use Rattle.mr_value.specs.declared.val.Val.TheVariants as val
use Rattle.mr_eval.proofs.DiscSafe.{discriminant_safe}
use Rattle.mr_eval.proofs.EvaluationLaws.{script_addr_of, script_binary, script_cast, script_deref, script_disc, script_false, script_field, script_fn, script_global, script_index, script_int, script_load, script_local, script_raw, script_transmute, script_true, script_tuple, script_unary, script_union, script_variant, script_variant_place}
use Rattle.mr_eval.proofs.OperatorsSafe.{Shaped, binary_safe, cast_safe, int_layer, unary_safe}
use Rattle.mr_eval.proofs.OverflowTypes.{overflow_ok}
use Rattle.mr_eval.proofs.PartTypes.{element_ok, field_ok, variant_ok}
use Rattle.mr_eval.proofs.SafeLaws.{loading_safe, meant_safe, moved_safe, safe_found, safe_if, safe_then}
use Rattle.mr_eval.proofs.ShapeOf.{int_shape, parts_shape, union_shape, variant_shape}

-- ---- pointers in values

is_reference : (t : Ty) → is_ref t ≡ true → (v : Val) → Shaped t v → (p : Pointer) × (out-Val v ≡ Val-F.Ptr p)
is_reference t e v h = by_layer (out-Ty t) e (subst (λ (u : Ty). Shaped u v) (sym (type_made t)) h)
  where
    by_layer : (l : Ty-F Ty Variant) → is_ref_layer l ≡ true → Shaped (roll-Ty l) v → (p : Pointer) × (out-Val v ≡ Val-F.Ptr p)
    by_layer (Ty-F.Ref size align never) k g =
        let made = shape_ref size align never v (subst (λ (u : Ty). Shaped u v) (ty.rolls-Ref size align never) g) in
        (made.pointer, ap out-Val made.is ∙ val.outs-Ptr made.pointer)
    by_layer _ k g = absurd (cc)

or_three : {P : Type 0} (x y z : Bool) → (x || (y || z)) ≡ true → (x ≡ true → P) → (y ≡ true → P) → (z ≡ true → P) → P
or_three true y z e f g h = f refl
or_three false true z e f g h = g refl
or_three false false z e f g h = h e

pointer_layer : (t : Ty) → is_pointer t ≡ true → (v : Val) → Shaped t v → (p : Pointer) × (out-Val v ≡ Val-F.Ptr p)
pointer_layer t e v h = or_three (is_raw t) (is_ref t) (is_fn_ptr t) e of_raw (λ k. is_reference t k v h) of_fn
  where
    of_raw : is_raw t ≡ true → (p : Pointer) × (out-Val v ≡ Val-F.Ptr p)
    of_raw k = let made = shape_raw v (subst (λ (u : Ty). Shaped u v) (raw_is t k) h) in (made.pointer, ap out-Val made.is ∙ val.outs-Ptr made.pointer)

    of_fn : is_fn_ptr t ≡ true → (p : Pointer) × (out-Val v ≡ Val-F.Ptr p)
    of_fn k = let made = shape_fn_ptr v (subst (λ (u : Ty). Shaped u v) (fn_ptr_is t k) h) in (made.pointer, ap out-Val made.is ∙ val.outs-Ptr made.pointer)

pointer_safe : (t : Ty) → is_pointer t ≡ true → (v : Val) → Shaped t v → IsSafe any_result (pointer_of_value v)
pointer_safe t e v h = let p = pointer_layer t e v h in safe_found any_result (pointer_in (out-Val v)) p.0 (ap pointer_in p.1) tt

-- the address of a place, as a pointer of the type that is written
address_shape : (t : Ty) → (is_raw t || is_ref t) ≡ true → (p : Pointer) → Shaped t (val.Ptr p)
address_shape t e p = either (is_raw t) e refl
  where
    of_ref : (l : Ty-F Ty Variant) → is_ref_layer l ≡ true → Shaped (roll-Ty l) (val.Ptr p)
    of_ref (Ty-F.Ref size align never) k = ap (λ (u : Ty). has_shape u (val.Ptr p)) (ty.rolls-Ref size align never) ∙ has_ref size align never p
    of_ref _ k = absurd (cc)

    either : (b : Bool) → (b || is_ref t) ≡ true → is_raw t ≡ b → Shaped t (val.Ptr p)
    either true k is = subst (λ (u : Ty). Shaped u (val.Ptr p)) (sym (raw_is t is)) (has_raw p)
    either false k is = subst (λ (u : Ty). Shaped u (val.Ptr p)) (type_made t) (of_ref (out-Ty t) k)

-- a type that is there
some_type : (o : Option Ty) → is_some o ≡ true → (t : Ty) × (o ≡ Some t)
some_type None e = absurd (cc)
some_type (Some t) e = (t, refl)

-- the integers by which an enum's variants are told
discriminant_ok : (l : Ty-F Ty Variant) (t : Ty) → discriminant_in l ≡ Some t → TypeOk t
discriminant_ok (Ty-F.Enum size align disc variants tree) t e = subst TypeOk (same_Some (ty.Int disc) t e) (broken_int disc)
discriminant_ok _ t e = absurd (cc)

-- what an operator gives on a well-formed type
result_ok : (op : BinaryOp) (l t : Ty) → result_type op l ≡ Some t → TypeOk l → TypeOk t
result_ok op l t e ok = by_kind (compares op) (tells_overflow op) e
  where
    by_integer : (o : Option IntType) → option_map overflow_type o ≡ Some t → TypeOk t
    by_integer None h = absurd (cc)
    by_integer (Some i) h = subst TypeOk (same_Some (overflow_type i) t h) (overflow_ok i)

    by_kind : (c o : Bool) → (if c then Some ty.Bool else (if o then option_map overflow_type (integer_of l) else Some l)) ≡ Some t → TypeOk t
    by_kind true o h = subst TypeOk (same_Some ty.Bool t h) broken_bool
    by_kind false true h = by_integer (integer_of l) h
    by_kind false false h = subst TypeOk (same_Some l t h) ok

-- ---- expressions

-- a place whose type is well-formed and whose evaluation is safe
pub record IsPlace (s : Surround) (p : Place) : Type 0 where
  pub ty : Ty
  pub is : type_of_place s.locals p ≡ Some ty
  pub ok : TypeOk ty
  pub safe : IsSafe any_result (place_script s p)

-- the same of a value
pub record IsValue (s : Surround) (v : Value) : Type 0 where
  pub ty : Ty
  pub is : type_of_value s.locals v ≡ Some ty
  pub ok : TypeOk ty
  pub safe : IsSafe (Shaped ty) (value_script s v)

module _ (named : Named) (sizes : List ℕ) (s : Surround) (stands : Stands named s) where
  abbrev at : Surroundings
  at = record { sizes = sizes; locals = s.locals }

  abbrev PlaceSafe : Place → Type 0
  PlaceSafe p = is_shaped_place named p ≡ true → broken_in_place at p ≡ [] → IsPlace s p

  abbrev ValueSafe : Value → Type 0
  ValueSafe v = is_shaped_value named v ≡ true → broken_in_value at v ≡ [] → IsValue s v

  -- a part, with the type that its test is about
  place_type : (p : Place) (test : Ty → Bool) → (typed : TypedPlace at p test) → (g : IsPlace s p) → g.ty ≡ typed.ty
  place_type p test typed g = same_Some g.ty typed.ty (sym g.is ∙ typed.is)

  value_type : (v : Value) (t : Ty) → type_of_value s.locals v ≡ Some t → (g : IsValue s v) → g.ty ≡ t
  value_type v t is g = same_Some g.ty t (sym g.is ∙ is)

  value_at : (v : Value) (t : Ty) → type_of_value s.locals v ≡ Some t → (g : IsValue s v) → IsSafe (Shaped t) (value_script s v)
  value_at v t is g = subst (λ (u : Ty). IsSafe (Shaped u) (value_script s v)) (value_type v t is g) g.safe

  -- ---- places

  local_safe : (x : LocalName) → PlaceSafe (place.Local x)
  local_safe x shaped none =
      let lt : x.0 < length s.locals = subst (λ (n : ℕ). x.0 < n) stands.locals (lt_from x.0 named.locals (sym (shaped_local_place named x) ∙ shaped)) in
      let l = item_there s.locals x.0 lt in
      let p = item_there s.storage x.0 (omega (arith, lt, stands.storage)) in
      record {
        ty = l.0.ty;
        is = type_of_local s.locals x ∙ ap (option_map (λ (y : Local). y.ty)) l.1;
        ok = all_at (λ (y : Local). TypeOk y.ty) s.locals x.0 l.0 stands.types l.1;
        safe = subst (IsSafe any_result) (sym (script_local s x ∙ ap stored p.1)) (storage_safe p.0);
      }
    where
      storage_safe : (o : Option Pointer) → IsSafe any_result (stored (Some o))
      storage_safe None = tt
      storage_safe (Some p) = tt

  deref_safe : (v : Value) (t : Ty) → ValueSafe v → PlaceSafe (place.Deref v t)
  deref_safe v t good shaped none =
      let typed = typed_deref named at stands.locals v t shaped none in
      let part = (and_parts (is_shaped_value named v) _ (sym (shaped_deref named v t) ∙ shaped)).0 in
      let g = good part typed.0.unbroken in
      record {
        ty = t;
        is = type_of_deref s.locals v t;
        ok = typed.1;
        safe = subst (IsSafe any_result) (sym (script_deref s v t)) (safe_then (Shaped typed.0.ty) any_result (value_script s v) pointer_of_value (value_at v typed.0.ty typed.0.is g) (λ x h. pointer_safe typed.0.ty typed.0.fits x h));
      }

  field_safe : (p : Place) (k : ℕ) → PlaceSafe p → PlaceSafe (place.Field p k)
  field_safe p k good shaped none =
      let typed = typed_field named at stands.locals p k shaped none in
      let part = (and_parts (is_shaped_place named p) _ (sym (shaped_field_place named p k) ∙ shaped)).0 in
      let g = good part typed.unbroken in
      let whole = subst TypeOk (place_type p _ typed g) g.ok in
      let t = some_type (field_type typed.ty k) typed.fits in
      let f = field_ok typed.ty whole k t.0 t.1 in
      record {
        ty = t.0;
        is = type_of_field s.locals p k ∙ ap (λ (o : Option Ty). chained o (λ u. field_type u k)) typed.is ∙ t.1;
        ok = f.part.ok;
        safe = subst (IsSafe any_result) (sym (script_field s p k)) (safe_then any_result any_result (place_script s p) _ g.safe (λ a u.
            subst (λ (o : Option Ty). IsSafe any_result (or_ill_formed (offset_in o k) >>= (λ n. moved a (pos n)))) (sym typed.is)
            (subst (λ (o : Option ℕ). IsSafe any_result (or_ill_formed o >>= (λ n. moved a (pos n)))) (sym f.is) (moved_safe a (pos f.at)))));
      }

  variant_place_safe : (p : Place) (n : Num) → PlaceSafe p → PlaceSafe (place.Variant p n)
  variant_place_safe p n good shaped none =
      let typed = typed_variant_place named at stands.locals p n shaped none in
      let part = (and_parts (is_shaped_place named p) _ (sym (shaped_variant_place named p n) ∙ shaped)).0 in
      let g = good part typed.unbroken in
      let whole = subst TypeOk (place_type p _ typed g) g.ok in
      let t = some_type (variant_type typed.ty n) typed.fits in
      record {
        ty = t.0;
        is = type_of_variant_place s.locals p n ∙ ap (λ (o : Option Ty). chained o (λ u. variant_type u n)) typed.is ∙ t.1;
        ok = variant_ok typed.ty whole n t.0 t.1;
        safe = subst (IsSafe any_result) (sym (script_variant_place s p n)) (safe_then any_result any_result (place_script s p) _ g.safe (λ a u.
            subst (λ (o : Option Ty). IsSafe any_result (as_variant o n a)) (sym typed.is)
            (subst (λ (b : Bool). IsSafe any_result (if b then Done a else IllFormed)) (sym typed.fits) tt)));
      }

  index_safe : (p : Place) (i : Value) → PlaceSafe p → ValueSafe i → PlaceSafe (place.Index p i)
  index_safe p i good good_i shaped none =
      let typed = typed_index named at stands.locals p i shaped none in
      let parts = and_parts (is_shaped_place named p) (is_shaped_value named i) (sym (shaped_index_place named p i) ∙ shaped) in
      let g = good parts.0 typed.0.unbroken in
      let h = good_i parts.1 typed.1.unbroken in
      let whole = subst TypeOk (place_type p _ typed.0 g) g.ok in
      let t = some_type (element_type typed.0.ty) typed.0.fits in
      let e = element_ok typed.0.ty whole t.0 t.1 in
      record {
        ty = t.0;
        is = type_of_index s.locals p i ∙ ap (λ (o : Option Ty). chained o element_type) typed.0.is ∙ t.1;
        ok = e.ok;
        safe = subst (IsSafe any_result) (sym (script_index s p i)) (safe_then any_result any_result (place_script s p) _ g.safe (λ a u.
            safe_then (Shaped typed.1.ty) any_result (value_script s i) _ (value_at i typed.1.ty typed.1.is h) (λ v shape.
            position_safe a typed.0.ty (typed.0.is) (e.count, size_of t.0) e.is typed.1.ty typed.1.fits v shape)));
      }
    where
      position_safe : (a : Pointer) (array : Ty) → type_of_place s.locals p ≡ Some array → (e : ℕ × ℕ) → elements_in (Some array) ≡ Some e → (t : Ty) → is_int U64 t ≡ true → (v : Val) → Shaped t v
          → IsSafe any_result (index_of_value v >>= (λ n. or_ill_formed (elements_in (type_of_place s.locals p)) >>= element_at a n))
      position_safe a array is e found t fits v shape =
          let told : integer_of t ≡ Some U64 = subst (λ (u : Ty). integer_of u ≡ Some U64) (sym (same_type_equal t (ty.Int U64) fits)) (ap integer_in (ty.outs-Int U64)) in
          let x = int_layer t v U64 told shape in
          let small : x.bits < 2 ^ 64 = subst (λ (i : IntType). x.bits < 2 ^ bits_of i) (same_Some x.int U64 (sym x.told ∙ told)) x.within in
          subst (λ (w : Val-F Val). IsSafe any_result (or_ill_formed (index_in w) >>= (λ n. or_ill_formed (elements_in (type_of_place s.locals p)) >>= element_at a n))) (sym x.layer)
          (subst (λ (b : Bool). IsSafe any_result (or_ill_formed (if b then Some x.bits else None) >>= (λ n. or_ill_formed (elements_in (type_of_place s.locals p)) >>= element_at a n))) (sym (lt_test x.bits (2 ^ 64) small))
          (subst (λ (o : Option (ℕ × ℕ)). IsSafe any_result (or_ill_formed o >>= element_at a x.bits)) (sym (ap elements_in is ∙ found))
          (safe_if any_result (nat_lt x.bits e.0) (moved a (pos (x.bits * e.1))) (Undefined (plainly IndexOutOfRange)) (moved_safe a (pos (x.bits * e.1))) tt)))

  -- ---- values

  done_safe : (v : Value) (t : Ty) (x : Val) → type_of_value s.locals v ≡ Some t → TypeOk t → value_script s v ≡ Done x → Shaped t x → IsValue s v
  done_safe v t x is ok script shape = record { ty = t; is = is; ok = ok; safe = subst (IsSafe (Shaped t)) (sym script) shape }

  fn_safe : (f : FnName) → ValueSafe (value.Fn f)
  fn_safe f shaped none =
      let lt : f.0 < length s.functions = omega (arith, stands.functions, lt_from f.0 named.functions (sym (shaped_fn named f) ∙ shaped)) in
      let p = item_there s.functions f.0 lt in
      done_safe (value.Fn f) ty.FnPtr (val.Ptr p.0) (type_of_fn s.locals f) broken_fn_ptr
      (script_fn s f ∙ ap (λ (o : Option Pointer). or_ill_formed o >>= (λ q. Done (val.Ptr q))) p.1) (has_fn_ptr p.0)

  global_safe : (g : GlobalName) (k : ℕ) → ValueSafe (value.Global g k)
  global_safe g k shaped none =
      let named_one = (and_parts (nat_lt g.0 named.globals) _ (sym (shaped_global named g k) ∙ shaped)).0 in
      let lt : g.0 < length s.globals = omega (arith, stands.globals, lt_from g.0 named.globals named_one) in
      let p = item_there s.globals g.0 lt in
      done_safe (value.Global g k) ty.Raw (val.Ptr (behind p.0 k)) (type_of_global s.locals g k) broken_raw
      (script_global s g k ∙ ap (λ (o : Option Pointer). or_ill_formed o >>= (λ q. Done (val.Ptr (behind q k)))) p.1) (has_raw (behind p.0 k))

  -- values in a row
  values_safe : (vs : List Value) → AllValues ValueSafe vs → list_all (is_shaped_value named) vs ≡ true → flat_map (broken_in_value at) vs ≡ [] → (types : List Ty) → Judges at vs types
      → IsSafe (HaveShapes types) (values_script s vs)
  values_safe [] all shaped none [] are = tt
  values_safe [] all shaped none (t ∷ types) are = absurd (cc)
  values_safe (v ∷ vs) all shaped none [] are = absurd (cc)
  values_safe (v ∷ vs) all shaped none (t ∷ types) are =
      let parts = and_parts (is_shaped_value named v) (list_all (is_shaped_value named) vs) shaped in
      let nones = both_nothing (broken_in_value at v) (flat_map (broken_in_value at) vs) none in
      let first : type_of_value s.locals v ≡ Some t = cc in
      let rest : Judges at vs types = cc in
      safe_then (Shaped t) (HaveShapes (t ∷ types)) (value_script s v) _ (value_at v t first (all.0 parts.0 nones.0)) (λ x h.
      safe_then (HaveShapes types) (HaveShapes (t ∷ types)) (values_script s vs) _ (values_safe vs all.1 parts.1 nones.1 types rest) (λ xs hs. (h, hs)))

  tuple_safe : (t : Ty) (vs : List Value) → AllValues ValueSafe vs → ValueSafe (value.Tuple t vs)
  tuple_safe t vs all shaped none =
      let typed = typed_tuple named at stands.locals t vs shaped none in
      let part = (and_parts _ (list_all (is_shaped_value named) vs) (sym (shaped_tuple named t vs) ∙ shaped)).1 in
      let row = typed.1 in
      record {
        ty = t;
        is = type_of_tuple s.locals t vs;
        ok = typed.0;
        safe = subst (IsSafe (Shaped t)) (sym (script_tuple s t vs)) (safe_then (HaveShapes row.types) (Shaped t) (values_script s vs) (λ xs. Done (val.Tuple xs))
            (values_safe vs all part row.unbroken row.types row.are) (λ xs h. parts_shape t row.types xs row.fits h));
      }

  union_safe : (t : Ty) (k : ℕ) (v : Value) → ValueSafe v → ValueSafe (value.Union t k v)
  union_safe t k v good shaped none =
      let typed = typed_union named at stands.locals t k v shaped none in
      let part = (and_parts (fits_u64 k) (is_shaped_value named v) (and_parts (is_shaped_type t) _ (sym (shaped_union named t k v) ∙ shaped)).1).1 in
      let g = good part typed.1.unbroken in
      record {
        ty = t;
        is = type_of_union s.locals t k v;
        ok = typed.0;
        safe = subst (IsSafe (Shaped t)) (sym (script_union s t k v)) (safe_then (Shaped typed.1.ty) (Shaped t) (value_script s v) (union_of t k) (value_at v typed.1.ty typed.1.is g) (λ x h.
            let made = union_shape t typed.0 k typed.1.ty x typed.1.fits h in
            subst (λ (o : Option Bytes). IsSafe (Shaped t) (or_ill_formed o >>= (λ bytes. Done (val.Union bytes)))) (sym made.1) made.2));
      }

  variant_safe : (t : Ty) (n : Num) (v : Value) → ValueSafe v → ValueSafe (value.Variant t n v)
  variant_safe t n v good shaped none =
      let typed = typed_variant named at stands.locals t n v shaped none in
      let part = (and_parts (is_shaped_num n) (is_shaped_value named v) (and_parts (is_shaped_type t) _ (sym (shaped_variant named t n v) ∙ shaped)).1).1 in
      let g = good part typed.1.unbroken in
      record {
        ty = t;
        is = type_of_variant s.locals t n v;
        ok = typed.0;
        safe = subst (IsSafe (Shaped t)) (sym (script_variant s t n v)) (safe_then (Shaped typed.1.ty) (Shaped t) (value_script s v) (λ x. Done (val.Variant n x)) (value_at v typed.1.ty typed.1.is g)
            (λ x h. variant_shape t n typed.1.ty x typed.1.fits h));
      }

  load_safe : (p : Place) → PlaceSafe p → ValueSafe (value.Load p)
  load_safe p good shaped none =
      let typed = typed_load named at stands.locals p shaped none in
      let g = good (sym (shaped_load named p) ∙ shaped) typed.unbroken in
      record {
        ty = g.ty;
        is = type_of_load s.locals p ∙ g.is;
        ok = g.ok;
        safe = subst (IsSafe (Shaped g.ty)) (sym (script_load s p)) (safe_then any_result (Shaped g.ty) (place_script s p) (loaded (type_of_place s.locals p)) g.safe (λ a u.
            subst (λ (o : Option Ty). IsSafe (Shaped g.ty) (loaded o a)) (sym g.is) (loading_safe g.ty a g.ok)));
      }

  disc_safe : (p : Place) → PlaceSafe p → ValueSafe (value.Disc p)
  disc_safe p good shaped none =
      let typed = typed_disc named at stands.locals p shaped none in
      let g = good (sym (shaped_disc named p) ∙ shaped) typed.unbroken in
      let whole = subst TypeOk (place_type p _ typed g) g.ok in
      let t = some_type (discriminant_type typed.ty) typed.fits in
      record {
        ty = t.0;
        is = type_of_disc s.locals p ∙ ap (λ (o : Option Ty). chained o discriminant_type) typed.is ∙ t.1;
        ok = discriminant_ok (out-Ty typed.ty) t.0 t.1;
        safe = subst (IsSafe (Shaped t.0)) (sym (script_disc s p)) (safe_then any_result (Shaped t.0) (place_script s p) (discriminant_at (type_of_place s.locals p)) g.safe (λ a u.
            subst (λ (o : Option Ty). IsSafe (Shaped t.0) (discriminant_at o a)) (sym typed.is) (discriminant_safe typed.ty whole a t.0 t.1)));
      }

  address_safe : (t : Ty) (p : Place) → PlaceSafe p → ValueSafe (value.AddrOf t p)
  address_safe t p good shaped none =
      let typed = typed_addr_of named at stands.locals t p shaped none in
      let part = (and_parts (is_shaped_type t) (is_shaped_place named p) (sym (shaped_addr_of named t p) ∙ shaped)).1 in
      let g = good part typed.2.unbroken in
      record {
        ty = t;
        is = type_of_addr_of s.locals t p;
        ok = typed.0;
        safe = subst (IsSafe (Shaped t)) (sym (script_addr_of s t p)) (safe_then any_result (Shaped t) (place_script s p) (λ a. Done (val.Ptr a)) g.safe (λ a u. address_shape t typed.1 a));
      }

  casting_safe : (i : IntType) (v : Value) → ValueSafe v → ValueSafe (value.Cast i v)
  casting_safe i v good shaped none =
      let typed = typed_cast named at stands.locals i v shaped none in
      let g = good (sym (shaped_cast named i v) ∙ shaped) typed.unbroken in
      record {
        ty = ty.Int i;
        is = type_of_cast s.locals i v;
        ok = broken_int i;
        safe = subst (IsSafe (Shaped (ty.Int i))) (sym (script_cast s i v)) (safe_then (Shaped typed.ty) (Shaped (ty.Int i)) (value_script s v) (cast_value i (type_of_value s.locals v)) (value_at v typed.ty typed.is g) (λ x h.
            subst (λ (o : Option Ty). IsSafe (Shaped (ty.Int i)) (cast_value i o x)) (sym typed.is) (cast_safe typed.ty x h i typed.fits)));
      }

  transmute_safe : (t : Ty) (v : Value) → ValueSafe v → ValueSafe (value.Transmute t v)
  transmute_safe t v good shaped none =
      let typed = typed_transmute named at stands.locals t v shaped none in
      let part = (and_parts (is_shaped_type t) (is_shaped_value named v) (sym (shaped_transmute named t v) ∙ shaped)).1 in
      let g = good part typed.1.unbroken in
      let u = typed.1.ty in
      let ok_u = subst TypeOk (value_type v u typed.1.is g) g.ok in
      record {
        ty = t;
        is = type_of_transmute s.locals t v;
        ok = typed.0;
        safe = subst (IsSafe (Shaped t)) (sym (script_transmute s t v)) (safe_then (Shaped u) (Shaped t) (value_script s v) (transmuted t (type_of_value s.locals v)) (value_at v u typed.1.is g) (λ x h.
            subst (λ (o : Option Ty). IsSafe (Shaped t) (transmuted t o x)) (sym typed.1.is)
            (subst (λ (b : Bool). IsSafe (Shaped t) (if b then meant (plainly TransmuteInvalid) t (encoding_of u x) else IllFormed)) (sym h)
            (meant_safe (plainly TransmuteInvalid) t (encoding_of u x) typed.0 (length-encoding_of u ok_u x h ∙ sym (eq_from (size_of t) (size_of u) typed.1.fits))))));
      }

  unary_value_safe : (o : UnaryOp) (v : Value) → ValueSafe v → ValueSafe (value.Unary o v)
  unary_value_safe o v good shaped none =
      let typed = typed_unary named at stands.locals o v shaped none in
      let g = good (sym (shaped_unary named o v) ∙ shaped) typed.unbroken in
      record {
        ty = typed.ty;
        is = type_of_unary s.locals o v ∙ typed.is;
        ok = subst TypeOk (value_type v typed.ty typed.is g) g.ok;
        safe = subst (IsSafe (Shaped typed.ty)) (sym (script_unary s o v)) (safe_then (Shaped typed.ty) (Shaped typed.ty) (value_script s v) (unary_of o (type_of_value s.locals v)) (value_at v typed.ty typed.is g) (λ x h.
            subst (λ (u : Option Ty). IsSafe (Shaped typed.ty) (unary_of o u x)) (sym typed.is) (unary_safe typed.ty x h o typed.fits)));
      }

  binary_value_safe : (o : BinaryOp) (a b : Value) → ValueSafe a → ValueSafe b → ValueSafe (value.Binary o a b)
  binary_value_safe o a b good_a good_b shaped none =
      let typed = typed_binary named at stands.locals o a b shaped none in
      let parts = and_parts (is_shaped_value named a) (is_shaped_value named b) (sym (shaped_binary named o a b) ∙ shaped) in
      let g = good_a parts.0 typed.unbroken_left in
      let h = good_b parts.1 typed.unbroken_right in
      let l = typed.left in
      let r = typed.right in
      let t = some_type (result_type o l) (result_there o l r typed.fits) in
      record {
        ty = t.0;
        is = type_of_binary s.locals o a b ∙ ap (λ (u : Option Ty). chained u (result_type o)) typed.is_left ∙ t.1;
        ok = result_ok o l t.0 t.1 (subst TypeOk (value_type a l typed.is_left g) g.ok);
        safe = subst (IsSafe (Shaped t.0)) (sym (script_binary s o a b)) (safe_then (Shaped l) (Shaped t.0) (value_script s a) _ (value_at a l typed.is_left g) (λ x hx.
            safe_then (Shaped r) (Shaped t.0) (value_script s b) (binary_of o (type_of_value s.locals a) (type_of_value s.locals b) x) (value_at b r typed.is_right h) (λ y hy.
            subst (λ (u : Option Ty). IsSafe (Shaped t.0) (binary_of o u (type_of_value s.locals b) x y)) (sym typed.is_left)
            (subst (λ (u : Option Ty). IsSafe (Shaped t.0) (binary_of o (Some l) u x y)) (sym typed.is_right) (binary_safe l r x y hx hy o t.0 typed.fits t.1)))));
      }

  safe_cases : ExprCases PlaceSafe ValueSafe
  safe_cases = record {
    at_local = local_safe;
    at_deref = deref_safe;
    at_field = field_safe;
    at_index = index_safe;
    at_variant_place = variant_place_safe;
    at_int = λ i n shaped none. done_safe (value.Int i n) (ty.Int i) (val.Int (bits_of_number i n)) (type_of_int s.locals i n) (broken_int i) (script_int s i n) (int_shape i n (typed_int named at stands.locals i n none));
    at_true = λ shaped none. done_safe value.True ty.Bool (val.Bool true) (type_of_true s.locals) broken_bool (script_true s) (has_bool true);
    at_false = λ shaped none. done_safe value.False ty.Bool (val.Bool false) (type_of_false s.locals) broken_bool (script_false s) (has_bool false);
    at_raw = λ n shaped none. done_safe (value.Raw n) ty.Raw (val.Ptr (bare n)) (type_of_raw s.locals n) broken_raw (script_raw s n) (has_raw (bare n));
    at_fn = fn_safe;
    at_global = global_safe;
    at_tuple = tuple_safe;
    at_union = union_safe;
    at_variant = variant_safe;
    at_load = load_safe;
    at_disc = disc_safe;
    at_addr_of = address_safe;
    at_cast = casting_safe;
    at_transmute = transmute_safe;
    at_unary = unary_value_safe;
    at_binary = binary_value_safe;
  }

  pub place_safe : (p : Place) → PlaceSafe p
  place_safe = place_induction PlaceSafe ValueSafe safe_cases

  pub value_safe : (v : Value) → ValueSafe v
  value_safe = value_induction PlaceSafe ValueSafe safe_cases
