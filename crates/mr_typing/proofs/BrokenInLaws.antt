-- The equations of `broken_in_place` and `broken_in_value`, one for each kind of place and value.
use Rattle.mr_typing.proofs.Common.{◌≡◌, ℕ, List, [], ◌∷◌, ◌++◌, map, Option, refl, sym, ap, ◌∙◌, ◌&&◌, ◌||◌, is_some, flat_map, IntType, U64, Num, Ty, FnName, GlobalName, LocalName, UnaryOp, BinaryOp, Place, roll-Place, Value, roll-Value, Place-F, Value-F, map-Place, map-Value, is_fitting, discriminant_type, element_type, field_type, type_of_place, type_of_value, variant_type, fits_binary, fits_parts, fits_unary, fits_union, fits_variant, is_int, is_pointer, is_raw, is_ref, is_scalar_number, same_size, Rules, Surroundings, broken_in_place, broken_in_value, is_in_global, of_type, rule, where_all_typed, where_both_typed, where_typed}
use Rattle.std.proofs.lemmas.List.Folds.{flat_map-map}
use Rattle.mr_ast.specs.declared.expr.Place.TheFolds.{para-roll-Place, para-roll-Value}
use Rattle.mr_typing.specs.Broken.{broken_place_step, broken_value_step}
use Rattle.mr_ast.specs.declared.rule.Rule.TheVariants as form
use Rattle.mr_ast.specs.declared.expr.Place.TheVariants as place
use Rattle.mr_ast.specs.declared.expr.Value.TheVariants as value

module _ (at : Surroundings) where
  abbrev place_with_rules : Place → Place × Rules
  place_with_rules p = (p, broken_in_place at p)

  abbrev with_rules : Value → Value × Rules
  with_rules v = (v, broken_in_value at v)

  -- one level, at a place and a value that are made of it
  place_roll : (d : Place-F Place Value) → broken_in_place at (roll-Place d) ≡ broken_place_step at (map-Place Place Value (Place × Rules) (Value × Rules) place_with_rules with_rules d)
  unfolding broken_in_place broken_in_value
  place_roll d = para-roll-Place Rules Rules (broken_place_step at) (broken_value_step at) d

  value_roll : (d : Value-F Place Value) → broken_in_value at (roll-Value d) ≡ broken_value_step at (map-Value Place Value (Place × Rules) (Value × Rules) place_with_rules with_rules d)
  unfolding broken_in_place broken_in_value
  value_roll d = para-roll-Value Rules Rules (broken_place_step at) (broken_value_step at) d

  types_are : (vs : List Value) → map (λ (v : Value × Rules). type_of_value at.locals v.0) (map with_rules vs) ≡ map (type_of_value at.locals) vs
  types_are [] = refl
  types_are (v ∷ vs) = ap (λ (x : List (Option Ty)). type_of_value at.locals v ∷ x) (types_are vs)

  pub broken_in_local : (x : LocalName) → broken_in_place at (place.Local x) ≡ []
  broken_in_local x = ap (broken_in_place at) (sym (place.rolls-Local x)) ∙ place_roll (Place-F.Local x)

  pub broken_in_deref : (v : Value) (t : Ty)
      → broken_in_place at (place.Deref v t) ≡ (broken_in_value at v ++ of_type t ++ rule form.Place (where_typed (type_of_value at.locals v) is_pointer))
  broken_in_deref v t = ap (broken_in_place at) (sym (place.rolls-Deref v t)) ∙ place_roll (Place-F.Deref v t)

  pub broken_in_field : (p : Place) (k : ℕ)
      → broken_in_place at (place.Field p k) ≡ (broken_in_place at p ++ rule form.Place (where_typed (type_of_place at.locals p) (λ t. is_some (field_type t k))))
  broken_in_field p k = ap (broken_in_place at) (sym (place.rolls-Field p k)) ∙ place_roll (Place-F.Field p k)

  pub broken_in_index : (p : Place) (i : Value)
      → broken_in_place at (place.Index p i) ≡ (broken_in_place at p ++ broken_in_value at i ++ rule form.Place (where_both_typed (type_of_place at.locals p) (type_of_value at.locals i) (λ t u. is_some (element_type t) && is_int U64 u)))
  broken_in_index p i = ap (broken_in_place at) (sym (place.rolls-Index p i)) ∙ place_roll (Place-F.Index p i)

  pub broken_in_variant_place : (p : Place) (n : Num)
      → broken_in_place at (place.Variant p n) ≡ (broken_in_place at p ++ rule form.Place (where_typed (type_of_place at.locals p) (λ t. is_some (variant_type t n))))
  broken_in_variant_place p n = ap (broken_in_place at) (sym (place.rolls-Variant p n)) ∙ place_roll (Place-F.Place::Variant p n)

  pub broken_in_int : (i : IntType) (n : Num) → broken_in_value at (value.Int i n) ≡ (rule form.ConstRange (is_fitting i n))
  broken_in_int i n = ap (broken_in_value at) (sym (value.rolls-Int i n)) ∙ value_roll (Value-F.Int i n)

  pub broken_in_true : broken_in_value at value.True ≡ []
  broken_in_true = ap (broken_in_value at) (sym value.rolls-True) ∙ value_roll Value-F.True

  pub broken_in_false : broken_in_value at value.False ≡ []
  broken_in_false = ap (broken_in_value at) (sym value.rolls-False) ∙ value_roll Value-F.False

  pub broken_in_raw : (n : ℕ) → broken_in_value at (value.Raw n) ≡ []
  broken_in_raw n = ap (broken_in_value at) (sym (value.rolls-Raw n)) ∙ value_roll (Value-F.Raw n)

  pub broken_in_fn : (f : FnName) → broken_in_value at (value.Fn f) ≡ []
  broken_in_fn f = ap (broken_in_value at) (sym (value.rolls-Fn f)) ∙ value_roll (Value-F.Fn f)

  pub broken_in_global : (g : GlobalName) (n : ℕ) → broken_in_value at (value.Global g n) ≡ (rule form.GlobalRef (is_in_global at.sizes g.0 n))
  broken_in_global g n = ap (broken_in_value at) (sym (value.rolls-Global g n)) ∙ value_roll (Value-F.Global g n)

  pub broken_in_tuple : (t : Ty) (vs : List Value)
      → broken_in_value at (value.Tuple t vs) ≡ (of_type t ++ flat_map (broken_in_value at) vs ++ rule form.Aggregate (where_all_typed (map (type_of_value at.locals) vs) (fits_parts t)))
  broken_in_tuple t vs = ap (broken_in_value at) (sym (value.rolls-Tuple t vs)) ∙ value_roll (Value-F.Tuple t vs)
      ∙ ap (λ (x : Rules). of_type t ++ x ++ rule form.Aggregate (where_all_typed (map (λ (v : Value × Rules). type_of_value at.locals v.0) (map with_rules vs)) (fits_parts t))) (flat_map-map (λ (v : Value × Rules). v.1) with_rules vs)
      ∙ ap (λ (x : List (Option Ty)). of_type t ++ flat_map (broken_in_value at) vs ++ rule form.Aggregate (where_all_typed x (fits_parts t))) (types_are vs)

  pub broken_in_union : (t : Ty) (k : ℕ) (v : Value)
      → broken_in_value at (value.Union t k v) ≡ (of_type t ++ broken_in_value at v ++ rule form.Aggregate (where_typed (type_of_value at.locals v) (fits_union t k)))
  broken_in_union t k v = ap (broken_in_value at) (sym (value.rolls-Union t k v)) ∙ value_roll (Value-F.Union t k v)

  pub broken_in_variant : (t : Ty) (n : Num) (v : Value)
      → broken_in_value at (value.Variant t n v) ≡ (of_type t ++ broken_in_value at v ++ rule form.Aggregate (where_typed (type_of_value at.locals v) (fits_variant t n)))
  broken_in_variant t n v = ap (broken_in_value at) (sym (value.rolls-Variant t n v)) ∙ value_roll (Value-F.Value::Variant t n v)

  pub broken_in_load : (p : Place) → broken_in_value at (value.Load p) ≡ (broken_in_place at p)
  broken_in_load p = ap (broken_in_value at) (sym (value.rolls-Load p)) ∙ value_roll (Value-F.Load p)

  pub broken_in_disc : (p : Place)
      → broken_in_value at (value.Disc p) ≡ (broken_in_place at p ++ rule form.Discriminant (where_typed (type_of_place at.locals p) (λ t. is_some (discriminant_type t))))
  broken_in_disc p = ap (broken_in_value at) (sym (value.rolls-Disc p)) ∙ value_roll (Value-F.Disc p)

  pub broken_in_addr_of : (t : Ty) (p : Place)
      → broken_in_value at (value.AddrOf t p) ≡ (of_type t ++ broken_in_place at p ++ rule form.Cast (is_raw t || is_ref t))
  broken_in_addr_of t p = ap (broken_in_value at) (sym (value.rolls-AddrOf t p)) ∙ value_roll (Value-F.AddrOf t p)

  pub broken_in_cast : (i : IntType) (v : Value)
      → broken_in_value at (value.Cast i v) ≡ (broken_in_value at v ++ rule form.Cast (where_typed (type_of_value at.locals v) is_scalar_number))
  broken_in_cast i v = ap (broken_in_value at) (sym (value.rolls-Cast i v)) ∙ value_roll (Value-F.Cast i v)

  pub broken_in_transmute : (t : Ty) (v : Value)
      → broken_in_value at (value.Transmute t v) ≡ (of_type t ++ broken_in_value at v ++ rule form.Cast (where_typed (type_of_value at.locals v) (same_size t)))
  broken_in_transmute t v = ap (broken_in_value at) (sym (value.rolls-Transmute t v)) ∙ value_roll (Value-F.Transmute t v)

  pub broken_in_unary : (o : UnaryOp) (v : Value)
      → broken_in_value at (value.Unary o v) ≡ (broken_in_value at v ++ rule form.Operand (where_typed (type_of_value at.locals v) (fits_unary o)))
  broken_in_unary o v = ap (broken_in_value at) (sym (value.rolls-Unary o v)) ∙ value_roll (Value-F.Unary o v)

  pub broken_in_binary : (o : BinaryOp) (a b : Value)
      → broken_in_value at (value.Binary o a b) ≡ (broken_in_value at a ++ broken_in_value at b ++ rule form.Operand (where_both_typed (type_of_value at.locals a) (type_of_value at.locals b) (fits_binary o)))
  broken_in_binary o a b = ap (broken_in_value at) (sym (value.rolls-Binary o a b)) ∙ value_roll (Value-F.Binary o a b)
