-- The equations of `type_of_place` and `type_of_value`, one for each kind of place and value.
use Rattle.mr_typing.proofs.Common.{◌≡◌, ℕ, List, Option, Some, sym, ap, ◌∙◌, slice_get, option_map, IntType, Num, Ty, FnName, GlobalName, LocalName, Local, UnaryOp, BinaryOp, Place, roll-Place, Value, roll-Value, Place-F, Value-F, map-Place, map-Value, fold-roll-Place, fold-roll-Value, chained, discriminant_type, element_type, field_type, result_type, type_of_place, type_of_value, variant_type}
use Rattle.mr_typing.specs.Types.{place_type_step, value_type_step}
use Rattle.mr_ast.specs.declared.types.Ty.TheVariants as ty
use Rattle.mr_ast.specs.declared.expr.Place.TheVariants as place
use Rattle.mr_ast.specs.declared.expr.Value.TheVariants as value

abbrev Answer : Type 0
Answer = Option Ty

module _ (locals : List Local) where
  -- one level, at a place and a value that are made of it
  place_roll : (d : Place-F Place Value) → type_of_place locals (roll-Place d) ≡ place_type_step locals (map-Place Place Value Answer Answer (type_of_place locals) (type_of_value locals) d)
  unfolding type_of_place type_of_value
  place_roll d = fold-roll-Place Answer Answer (place_type_step locals) value_type_step d

  value_roll : (d : Value-F Place Value) → type_of_value locals (roll-Value d) ≡ value_type_step (map-Value Place Value Answer Answer (type_of_place locals) (type_of_value locals) d)
  unfolding type_of_place type_of_value
  value_roll d = fold-roll-Value Answer Answer (place_type_step locals) value_type_step d

  pub type_of_local : (x : LocalName) → type_of_place locals (place.Local x) ≡ (option_map (λ (l : Local). l.ty) (slice_get locals x.0))
  type_of_local x = ap (type_of_place locals) (sym (place.rolls-Local x)) ∙ place_roll (Place-F.Local x)

  pub type_of_deref : (v : Value) (t : Ty) → type_of_place locals (place.Deref v t) ≡ (Some t)
  type_of_deref v t = ap (type_of_place locals) (sym (place.rolls-Deref v t)) ∙ place_roll (Place-F.Deref v t)

  pub type_of_field : (p : Place) (k : ℕ) → type_of_place locals (place.Field p k) ≡ (chained (type_of_place locals p) (λ t. field_type t k))
  type_of_field p k = ap (type_of_place locals) (sym (place.rolls-Field p k)) ∙ place_roll (Place-F.Field p k)

  pub type_of_index : (p : Place) (i : Value) → type_of_place locals (place.Index p i) ≡ (chained (type_of_place locals p) element_type)
  type_of_index p i = ap (type_of_place locals) (sym (place.rolls-Index p i)) ∙ place_roll (Place-F.Index p i)

  pub type_of_variant_place : (p : Place) (n : Num)
      → type_of_place locals (place.Variant p n) ≡ (chained (type_of_place locals p) (λ t. variant_type t n))
  type_of_variant_place p n = ap (type_of_place locals) (sym (place.rolls-Variant p n)) ∙ place_roll (Place-F.Place::Variant p n)

  pub type_of_int : (i : IntType) (n : Num) → type_of_value locals (value.Int i n) ≡ (Some (ty.Int i))
  type_of_int i n = ap (type_of_value locals) (sym (value.rolls-Int i n)) ∙ value_roll (Value-F.Int i n)

  pub type_of_true : type_of_value locals value.True ≡ (Some ty.Bool)
  type_of_true = ap (type_of_value locals) (sym value.rolls-True) ∙ value_roll Value-F.True

  pub type_of_false : type_of_value locals value.False ≡ (Some ty.Bool)
  type_of_false = ap (type_of_value locals) (sym value.rolls-False) ∙ value_roll Value-F.False

  pub type_of_raw : (n : ℕ) → type_of_value locals (value.Raw n) ≡ (Some ty.Raw)
  type_of_raw n = ap (type_of_value locals) (sym (value.rolls-Raw n)) ∙ value_roll (Value-F.Raw n)

  pub type_of_fn : (f : FnName) → type_of_value locals (value.Fn f) ≡ (Some ty.FnPtr)
  type_of_fn f = ap (type_of_value locals) (sym (value.rolls-Fn f)) ∙ value_roll (Value-F.Fn f)

  pub type_of_global : (g : GlobalName) (n : ℕ) → type_of_value locals (value.Global g n) ≡ (Some ty.Raw)
  type_of_global g n = ap (type_of_value locals) (sym (value.rolls-Global g n)) ∙ value_roll (Value-F.Global g n)

  pub type_of_tuple : (t : Ty) (vs : List Value) → type_of_value locals (value.Tuple t vs) ≡ (Some t)
  type_of_tuple t vs = ap (type_of_value locals) (sym (value.rolls-Tuple t vs)) ∙ value_roll (Value-F.Tuple t vs)

  pub type_of_union : (t : Ty) (k : ℕ) (v : Value) → type_of_value locals (value.Union t k v) ≡ (Some t)
  type_of_union t k v = ap (type_of_value locals) (sym (value.rolls-Union t k v)) ∙ value_roll (Value-F.Union t k v)

  pub type_of_variant : (t : Ty) (n : Num) (v : Value) → type_of_value locals (value.Variant t n v) ≡ (Some t)
  type_of_variant t n v = ap (type_of_value locals) (sym (value.rolls-Variant t n v)) ∙ value_roll (Value-F.Value::Variant t n v)

  pub type_of_load : (p : Place) → type_of_value locals (value.Load p) ≡ (type_of_place locals p)
  type_of_load p = ap (type_of_value locals) (sym (value.rolls-Load p)) ∙ value_roll (Value-F.Load p)

  pub type_of_disc : (p : Place) → type_of_value locals (value.Disc p) ≡ (chained (type_of_place locals p) discriminant_type)
  type_of_disc p = ap (type_of_value locals) (sym (value.rolls-Disc p)) ∙ value_roll (Value-F.Disc p)

  pub type_of_addr_of : (t : Ty) (p : Place) → type_of_value locals (value.AddrOf t p) ≡ (Some t)
  type_of_addr_of t p = ap (type_of_value locals) (sym (value.rolls-AddrOf t p)) ∙ value_roll (Value-F.AddrOf t p)

  pub type_of_cast : (i : IntType) (v : Value) → type_of_value locals (value.Cast i v) ≡ (Some (ty.Int i))
  type_of_cast i v = ap (type_of_value locals) (sym (value.rolls-Cast i v)) ∙ value_roll (Value-F.Cast i v)

  pub type_of_transmute : (t : Ty) (v : Value) → type_of_value locals (value.Transmute t v) ≡ (Some t)
  type_of_transmute t v = ap (type_of_value locals) (sym (value.rolls-Transmute t v)) ∙ value_roll (Value-F.Transmute t v)

  pub type_of_unary : (o : UnaryOp) (v : Value) → type_of_value locals (value.Unary o v) ≡ (type_of_value locals v)
  type_of_unary o v = ap (type_of_value locals) (sym (value.rolls-Unary o v)) ∙ value_roll (Value-F.Unary o v)

  pub type_of_binary : (o : BinaryOp) (a b : Value) → type_of_value locals (value.Binary o a b) ≡ (chained (type_of_value locals a) (result_type o))
  type_of_binary o a b = ap (type_of_value locals) (sym (value.rolls-Binary o a b)) ∙ value_roll (Value-F.Binary o a b)

pub ruleset type_laws = (type_of_local, type_of_deref, type_of_field, type_of_index, type_of_variant_place, type_of_int, type_of_true, type_of_false, type_of_raw, type_of_fn, type_of_global, type_of_tuple, type_of_union, type_of_variant, type_of_load, type_of_disc, type_of_addr_of, type_of_cast, type_of_transmute, type_of_unary, type_of_binary)
