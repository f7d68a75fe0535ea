-- The equations of the tests of shape, one for each kind of tree, type, place and value.
use Rattle.mr_ast.proofs.Common.{◌≡◌, ℕ, Bool, true, List, [], ◌∷◌, map, refl, sym, ap, ◌∙◌, IntType, Num, Tree, Tree-F, fold-roll-Tree, Ty, roll-Ty, Ty-F, map-Ty, fold-Variant, fold-roll-Ty, fold-roll-Variant, Variant, out-Variant, FnName, GlobalName, LocalName, UnaryOp, BinaryOp, Place, roll-Place, Value, roll-Value, Place-F, Value-F, map-Place, map-Value, fold-roll-Place, fold-roll-Value}
use Rattle.std.specs.Prelude.{◌&&◌, nat_lt}
use Rattle.std.specs.List.{list_all}
use Rattle.std.proofs.lemmas.List.Folds.{list_all-map}
use Rattle.mr_ast.specs.ShapedTypes.{fits_u64, is_shaped_num, is_shaped_chunk, shaped_tree_step, is_shaped_tree, is_shaped_case, shaped_type_step, shaped_variant_step, is_shaped_type, is_shaped_field, is_shaped_variant}
use Rattle.mr_ast.specs.ShapedValues.{Named, shaped_place_step, shaped_value_step, is_shaped_place, is_shaped_value}
use Rattle.mr_ast.specs.declared.types.Tree.TheVariants as tree
use Rattle.mr_ast.specs.declared.types.Ty.TheVariants as ty
use Rattle.mr_ast.specs.declared.expr.Place.TheVariants as place
use Rattle.mr_ast.specs.declared.expr.Value.TheVariants as value

pub shaped_known : (n : Num) → is_shaped_tree (tree.Known n) ≡ is_shaped_num n
unfolding is_shaped_tree
shaped_known n = ap is_shaped_tree (sym (tree.rolls-Known n)) ∙ fold-roll-Tree Bool shaped_tree_step (Tree-F.Known n)

pub shaped_invalid : is_shaped_tree tree.Invalid ≡ true
unfolding is_shaped_tree
shaped_invalid = ap is_shaped_tree (sym tree.rolls-Invalid) ∙ fold-roll-Tree Bool shaped_tree_step Tree-F.Invalid

pub shaped_branch : (at : ℕ) (int : IntType) (cases : List (Num × Tree)) (other : Tree)
    → is_shaped_tree (tree.Branch at int cases other) ≡ (fits_u64 at && (list_all is_shaped_case cases && is_shaped_tree other))
unfolding is_shaped_tree
shaped_branch at int cases other =
    ap is_shaped_tree (sym (tree.rolls-Branch at int cases other)) ∙ fold-roll-Tree Bool shaped_tree_step (Tree-F.Branch at int cases other)
    ∙ ap (λ b. fits_u64 at && (b && is_shaped_tree other)) (list_all-map (λ (c : Num × Bool). is_shaped_num c.0 && c.1) (λ (c : Num × Tree). (c.0, is_shaped_tree c.1)) cases)

-- a variant's test, as the fold gives it
variant_is : (v : Variant) → fold-Variant Bool Bool shaped_type_step shaped_variant_step v ≡ is_shaped_variant v
unfolding is_shaped_type
variant_is v = fold-roll-Variant Bool Bool shaped_type_step shaped_variant_step (out-Variant v)

variants_are : (variants : List Variant) → list_all (λ b. b) (map (fold-Variant Bool Bool shaped_type_step shaped_variant_step) variants) ≡ list_all is_shaped_variant variants
variants_are [] = refl
variants_are (v ∷ variants) = (λ i. variant_is v i && variants_are variants i)

fields_are : (fields : List (ℕ × Ty)) → list_all (λ (f : ℕ × Bool). fits_u64 f.0 && f.1) (map (λ (f : ℕ × Ty). (f.0, is_shaped_type f.1)) fields) ≡ list_all is_shaped_field fields
fields_are fields = list_all-map (λ (f : ℕ × Bool). fits_u64 f.0 && f.1) (λ (f : ℕ × Ty). (f.0, is_shaped_type f.1)) fields

-- one level, at a type that is made of it
shaped_roll : (d : Ty-F Ty Variant) → is_shaped_type (roll-Ty d) ≡ shaped_type_step (map-Ty Ty Variant Bool Bool is_shaped_type (fold-Variant Bool Bool shaped_type_step shaped_variant_step) d)
unfolding is_shaped_type
shaped_roll d = fold-roll-Ty Bool Bool shaped_type_step shaped_variant_step d

pub shaped_int_type : (i : IntType) → is_shaped_type (ty.Int i) ≡ true
shaped_int_type i = ap is_shaped_type (sym (ty.rolls-Int i)) ∙ shaped_roll (Ty-F.Int i)

pub shaped_bool : is_shaped_type ty.Bool ≡ true
shaped_bool = ap is_shaped_type (sym ty.rolls-Bool) ∙ shaped_roll Ty-F.Bool

pub shaped_raw_type : is_shaped_type ty.Raw ≡ true
shaped_raw_type = ap is_shaped_type (sym ty.rolls-Raw) ∙ shaped_roll Ty-F.Raw

pub shaped_fn_ptr : is_shaped_type ty.FnPtr ≡ true
shaped_fn_ptr = ap is_shaped_type (sym ty.rolls-FnPtr) ∙ shaped_roll Ty-F.FnPtr

pub shaped_ref : (size align : ℕ) (never : Bool) → is_shaped_type (ty.Ref size align never) ≡ (fits_u64 size && fits_u64 align)
shaped_ref size align never = ap is_shaped_type (sym (ty.rolls-Ref size align never)) ∙ shaped_roll (Ty-F.Ref size align never)

pub shaped_tuple_type : (size align : ℕ) (fields : List (ℕ × Ty)) → is_shaped_type (ty.Tuple size align fields) ≡ (fits_u64 size && (fits_u64 align && list_all is_shaped_field fields))
shaped_tuple_type size align fields =
    ap is_shaped_type (sym (ty.rolls-Tuple size align fields)) ∙ shaped_roll (Ty-F.Tuple size align fields)
    ∙ ap (λ b. fits_u64 size && (fits_u64 align && b)) (fields_are fields)

pub shaped_array : (count : ℕ) (elem : Ty) → is_shaped_type (ty.Array count elem) ≡ (fits_u64 count && is_shaped_type elem)
shaped_array count elem = ap is_shaped_type (sym (ty.rolls-Array count elem)) ∙ shaped_roll (Ty-F.Array count elem)

pub shaped_union_type : (size align : ℕ) (fields : List (ℕ × Ty)) (chunks : List (ℕ × ℕ))
    → is_shaped_type (ty.Union size align fields chunks) ≡ (fits_u64 size && (fits_u64 align && (list_all is_shaped_field fields && list_all is_shaped_chunk chunks)))
shaped_union_type size align fields chunks =
    ap is_shaped_type (sym (ty.rolls-Union size align fields chunks)) ∙ shaped_roll (Ty-F.Union size align fields chunks)
    ∙ ap (λ b. fits_u64 size && (fits_u64 align && (b && list_all is_shaped_chunk chunks))) (fields_are fields)

pub shaped_enum : (size align : ℕ) (disc : IntType) (variants : List Variant) (t : Tree)
    → is_shaped_type (ty.Enum size align disc variants t) ≡ (fits_u64 size && (fits_u64 align && (list_all is_shaped_variant variants && is_shaped_tree t)))
shaped_enum size align disc variants t =
    ap is_shaped_type (sym (ty.rolls-Enum size align disc variants t)) ∙ shaped_roll (Ty-F.Enum size align disc variants t)
    ∙ ap (λ b. fits_u64 size && (fits_u64 align && (b && is_shaped_tree t))) (variants_are variants)

pub ruleset shaped_type_laws = (shaped_known, shaped_invalid, shaped_branch, shaped_int_type, shaped_bool, shaped_raw_type, shaped_fn_ptr, shaped_ref, shaped_tuple_type, shaped_array, shaped_union_type, shaped_enum)

module _ (named : Named) where
  place_roll : (d : Place-F Place Value) → is_shaped_place named (roll-Place d) ≡ shaped_place_step named (map-Place Place Value Bool Bool (is_shaped_place named) (is_shaped_value named) d)
  unfolding is_shaped_place is_shaped_value
  place_roll d = fold-roll-Place Bool Bool (shaped_place_step named) (shaped_value_step named) d

  value_roll : (d : Value-F Place Value) → is_shaped_value named (roll-Value d) ≡ shaped_value_step named (map-Value Place Value Bool Bool (is_shaped_place named) (is_shaped_value named) d)
  unfolding is_shaped_place is_shaped_value
  value_roll d = fold-roll-Value Bool Bool (shaped_place_step named) (shaped_value_step named) d

  pub shaped_local_place : (n : LocalName) → is_shaped_place named (place.Local n) ≡ nat_lt n.0 named.locals
  shaped_local_place n = ap (is_shaped_place named) (sym (place.rolls-Local n)) ∙ place_roll (Place-F.Local n)

  pub shaped_deref : (v : Value) (t : Ty) → is_shaped_place named (place.Deref v t) ≡ (is_shaped_value named v && is_shaped_type t)
  shaped_deref v t = ap (is_shaped_place named) (sym (place.rolls-Deref v t)) ∙ place_roll (Place-F.Deref v t)

  pub shaped_field_place : (p : Place) (k : ℕ) → is_shaped_place named (place.Field p k) ≡ (is_shaped_place named p && fits_u64 k)
  shaped_field_place p k = ap (is_shaped_place named) (sym (place.rolls-Field p k)) ∙ place_roll (Place-F.Field p k)

  pub shaped_index_place : (p : Place) (i : Value) → is_shaped_place named (place.Index p i) ≡ (is_shaped_place named p && is_shaped_value named i)
  shaped_index_place p i = ap (is_shaped_place named) (sym (place.rolls-Index p i)) ∙ place_roll (Place-F.Index p i)

  pub shaped_variant_place : (p : Place) (n : Num) → is_shaped_place named (place.Variant p n) ≡ (is_shaped_place named p && is_shaped_num n)
  shaped_variant_place p n = ap (is_shaped_place named) (sym (place.rolls-Variant p n)) ∙ place_roll (Place-F.Place::Variant p n)

  pub shaped_int : (i : IntType) (n : Num) → is_shaped_value named (value.Int i n) ≡ is_shaped_num n
  shaped_int i n = ap (is_shaped_value named) (sym (value.rolls-Int i n)) ∙ value_roll (Value-F.Int i n)

  pub shaped_true : is_shaped_value named value.True ≡ true
  shaped_true = ap (is_shaped_value named) (sym value.rolls-True) ∙ value_roll Value-F.True

  pub shaped_false : is_shaped_value named value.False ≡ true
  shaped_false = ap (is_shaped_value named) (sym value.rolls-False) ∙ value_roll Value-F.False

  pub shaped_raw : (n : ℕ) → is_shaped_value named (value.Raw n) ≡ fits_u64 n
  shaped_raw n = ap (is_shaped_value named) (sym (value.rolls-Raw n)) ∙ value_roll (Value-F.Raw n)

  pub shaped_fn : (f : FnName) → is_shaped_value named (value.Fn f) ≡ nat_lt f.0 named.functions
  shaped_fn f = ap (is_shaped_value named) (sym (value.rolls-Fn f)) ∙ value_roll (Value-F.Fn f)

  pub shaped_global : (g : GlobalName) (n : ℕ) → is_shaped_value named (value.Global g n) ≡ (nat_lt g.0 named.globals && fits_u64 n)
  shaped_global g n = ap (is_shaped_value named) (sym (value.rolls-Global g n)) ∙ value_roll (Value-F.Global g n)

  pub shaped_tuple : (t : Ty) (vs : List Value) → is_shaped_value named (value.Tuple t vs) ≡ (is_shaped_type t && list_all (is_shaped_value named) vs)
  shaped_tuple t vs = ap (is_shaped_value named) (sym (value.rolls-Tuple t vs)) ∙ value_roll (Value-F.Tuple t vs)
      ∙ ap (λ b. is_shaped_type t && b) (list_all-map (λ (b : Bool). b) (is_shaped_value named) vs)

  pub shaped_union : (t : Ty) (k : ℕ) (v : Value) → is_shaped_value named (value.Union t k v) ≡ (is_shaped_type t && (fits_u64 k && is_shaped_value named v))
  shaped_union t k v = ap (is_shaped_value named) (sym (value.rolls-Union t k v)) ∙ value_roll (Value-F.Union t k v)

  pub shaped_variant : (t : Ty) (n : Num) (v : Value) → is_shaped_value named (value.Variant t n v) ≡ (is_shaped_type t && (is_shaped_num n && is_shaped_value named v))
  shaped_variant t n v = ap (is_shaped_value named) (sym (value.rolls-Variant t n v)) ∙ value_roll (Value-F.Value::Variant t n v)

  pub shaped_load : (p : Place) → is_shaped_value named (value.Load p) ≡ is_shaped_place named p
  shaped_load p = ap (is_shaped_value named) (sym (value.rolls-Load p)) ∙ value_roll (Value-F.Load p)

  pub shaped_disc : (p : Place) → is_shaped_value named (value.Disc p) ≡ is_shaped_place named p
  shaped_disc p = ap (is_shaped_value named) (sym (value.rolls-Disc p)) ∙ value_roll (Value-F.Disc p)

  pub shaped_addr_of : (t : Ty) (p : Place) → is_shaped_value named (value.AddrOf t p) ≡ (is_shaped_type t && is_shaped_place named p)
  shaped_addr_of t p = ap (is_shaped_value named) (sym (value.rolls-AddrOf t p)) ∙ value_roll (Value-F.AddrOf t p)

  pub shaped_cast : (i : IntType) (v : Value) → is_shaped_value named (value.Cast i v) ≡ is_shaped_value named v
  shaped_cast i v = ap (is_shaped_value named) (sym (value.rolls-Cast i v)) ∙ value_roll (Value-F.Cast i v)

  pub shaped_transmute : (t : Ty) (v : Value) → is_shaped_value named (value.Transmute t v) ≡ (is_shaped_type t && is_shaped_value named v)
  shaped_transmute t v = ap (is_shaped_value named) (sym (value.rolls-Transmute t v)) ∙ value_roll (Value-F.Transmute t v)

  pub shaped_unary : (o : UnaryOp) (v : Value) → is_shaped_value named (value.Unary o v) ≡ is_shaped_value named v
  shaped_unary o v = ap (is_shaped_value named) (sym (value.rolls-Unary o v)) ∙ value_roll (Value-F.Unary o v)

  pub shaped_binary : (o : BinaryOp) (a b : Value) → is_shaped_value named (value.Binary o a b) ≡ (is_shaped_value named a && is_shaped_value named b)
  shaped_binary o a b = ap (is_shaped_value named) (sym (value.rolls-Binary o a b)) ∙ value_roll (Value-F.Binary o a b)

pub ruleset shaped_value_laws = (shaped_local_place, shaped_deref, shaped_field_place, shaped_index_place, shaped_variant_place, shaped_int, shaped_true, shaped_false, shaped_raw, shaped_fn, shaped_global, shaped_tuple, shaped_union, shaped_variant, shaped_load, shaped_disc, shaped_addr_of, shaped_cast, shaped_transmute, shaped_unary, shaped_binary)
