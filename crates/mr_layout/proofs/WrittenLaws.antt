-- The equations of the types written in a type, a place and a value, one for each kind.
use Rattle.mr_layout.proofs.Common.{◌≡◌, ℕ, Bool, List, [], ◌∷◌, ◌++◌, map, refl, sym, ap, ◌∙◌, flat_map, IntType, Num, Tree, Ty, roll-Ty, Ty-F, map-Ty, para-roll-Ty, para-roll-Variant, Variant, out-Variant, parts_of, types_of, types_of_fields, types_of_variants, types_of_place, types_of_value, types_of_values}
use Rattle.std.proofs.Common.{append_assoc, append-nil}
use Rattle.std.proofs.lemmas.List.Folds.{flat_map-map}
use Rattle.mr_ast.specs.declared.program.FnName.{FnName}
use Rattle.mr_ast.specs.declared.program.GlobalName.{GlobalName}
use Rattle.mr_ast.specs.declared.program.LocalName.{LocalName}
use Rattle.mr_ast.specs.declared.expr.UnaryOp.{UnaryOp}
use Rattle.mr_ast.specs.declared.expr.BinaryOp.{BinaryOp}
use Rattle.mr_ast.specs.declared.expr.Place.{Place, roll-Place}
use Rattle.mr_ast.specs.declared.expr.Value.{Value, roll-Value}
use Rattle.mr_ast.specs.declared.expr.Place.TheOpen.{Place-F, Value-F}
use Rattle.mr_ast.specs.declared.expr.Place.TheFolds.{map-Place, map-Value, fold-roll-Place, fold-roll-Value}
use Rattle.mr_layout.specs.Written.{part_and_its_parts, parts_step, variant_parts_step, parts_of_variant, place_types_step, value_types_step}
use Rattle.mr_ast.specs.declared.types.Ty.TheVariants as ty
use Rattle.mr_ast.specs.declared.expr.Place.TheVariants as place
use Rattle.mr_ast.specs.declared.expr.Value.TheVariants as value

abbrev Types : Type 0
Types = List Ty

-- what is put behind a list in two steps, or not at all
pub type_then_parts : (xs : Types) (t : Ty) (parts : Types) → (xs ++ t ∷ []) ++ parts ≡ xs ++ (t ∷ parts)
type_then_parts xs t parts = append_assoc xs (t ∷ []) parts

pub both_in_turn : (xs first second : Types) → (xs ++ first) ++ second ≡ xs ++ (first ++ second)
both_in_turn xs first second = append_assoc xs first second

pub nothing_more : (xs ys : Types) → ys ≡ [] → xs ++ ys ≡ xs
nothing_more xs ys e = rw e (append-nil xs)

pub ruleset joins = (both_in_turn, nothing_more)

abbrev beside : Ty → Ty × Types
beside t = (t, parts_of t)

pub parts_variant_is : (v : Variant) → parts_of_variant v ≡ types_of v.ty
unfolding parts_of parts_of_variant
parts_variant_is v = para-roll-Variant Types Types parts_step variant_parts_step (out-Variant v)

variants_are : (variants : List Variant) → flat_map (λ (v : Variant × Types). v.1) (map (λ (v : Variant). (v, parts_of_variant v)) variants) ≡ types_of_variants variants
variants_are [] = refl
variants_are (v ∷ variants) = rw (parts_variant_is v, variants_are variants)

fields_are : (fields : List (ℕ × Ty)) → flat_map (λ (f : ℕ × (Ty × Types)). part_and_its_parts f.1) (map (λ (f : ℕ × Ty). (f.0, beside f.1)) fields) ≡ types_of_fields fields
fields_are [] = refl
fields_are (f ∷ fields) = ap (λ (x : Types). types_of f.1 ++ x) (fields_are fields)

-- one level, at a type that is made of it
parts_roll : (d : Ty-F Ty Variant) → parts_of (roll-Ty d) ≡ parts_step (map-Ty Ty Variant (Ty × Types) (Variant × Types) beside (λ v. (v, parts_of_variant v)) d)
unfolding parts_of parts_of_variant
parts_roll d = para-roll-Ty Types Types parts_step variant_parts_step d

pub parts_int : (i : IntType) → parts_of (ty.Int i) ≡ []
parts_int i = ap parts_of (sym (ty.rolls-Int i)) ∙ parts_roll (Ty-F.Int i)

pub parts_bool : parts_of ty.Bool ≡ []
parts_bool = ap parts_of (sym ty.rolls-Bool) ∙ parts_roll Ty-F.Bool

pub parts_raw : parts_of ty.Raw ≡ []
parts_raw = ap parts_of (sym ty.rolls-Raw) ∙ parts_roll Ty-F.Raw

pub parts_fn_ptr : parts_of ty.FnPtr ≡ []
parts_fn_ptr = ap parts_of (sym ty.rolls-FnPtr) ∙ parts_roll Ty-F.FnPtr

pub parts_ref : (size align : ℕ) (never : Bool) → parts_of (ty.Ref size align never) ≡ []
parts_ref size align never = ap parts_of (sym (ty.rolls-Ref size align never)) ∙ parts_roll (Ty-F.Ref size align never)

pub parts_tuple : (size align : ℕ) (fields : List (ℕ × Ty)) → parts_of (ty.Tuple size align fields) ≡ types_of_fields fields
parts_tuple size align fields = ap parts_of (sym (ty.rolls-Tuple size align fields)) ∙ parts_roll (Ty-F.Tuple size align fields) ∙ fields_are fields

pub parts_array : (count : ℕ) (elem : Ty) → parts_of (ty.Array count elem) ≡ types_of elem
parts_array count elem = ap parts_of (sym (ty.rolls-Array count elem)) ∙ parts_roll (Ty-F.Array count elem)

pub parts_union : (size align : ℕ) (fields : List (ℕ × Ty)) (chunks : List (ℕ × ℕ)) → parts_of (ty.Union size align fields chunks) ≡ types_of_fields fields
parts_union size align fields chunks = ap parts_of (sym (ty.rolls-Union size align fields chunks)) ∙ parts_roll (Ty-F.Union size align fields chunks) ∙ fields_are fields

pub parts_enum : (size align : ℕ) (disc : IntType) (variants : List Variant) (tree : Tree) → parts_of (ty.Enum size align disc variants tree) ≡ types_of_variants variants
parts_enum size align disc variants tree = ap parts_of (sym (ty.rolls-Enum size align disc variants tree)) ∙ parts_roll (Ty-F.Enum size align disc variants tree) ∙ variants_are variants

pub ruleset parts_laws = (type_then_parts, parts_int, parts_bool, parts_raw, parts_fn_ptr, parts_ref, parts_tuple, parts_array, parts_union, parts_enum)

place_roll : (d : Place-F Place Value) → types_of_place (roll-Place d) ≡ place_types_step (map-Place Place Value Types Types types_of_place types_of_value d)
unfolding types_of_place types_of_value
place_roll d = fold-roll-Place Types Types place_types_step value_types_step d

value_roll : (d : Value-F Place Value) → types_of_value (roll-Value d) ≡ value_types_step (map-Value Place Value Types Types types_of_place types_of_value d)
unfolding types_of_place types_of_value
value_roll d = fold-roll-Value Types Types place_types_step value_types_step d

pub types_local : (x : LocalName) → types_of_place (place.Local x) ≡ []
types_local x = ap types_of_place (sym (place.rolls-Local x)) ∙ place_roll (Place-F.Local x)

pub types_deref : (v : Value) (t : Ty) → types_of_place (place.Deref v t) ≡ types_of_value v ++ types_of t
types_deref v t = ap types_of_place (sym (place.rolls-Deref v t)) ∙ place_roll (Place-F.Deref v t)

pub types_field : (p : Place) (k : ℕ) → types_of_place (place.Field p k) ≡ types_of_place p
types_field p k = ap types_of_place (sym (place.rolls-Field p k)) ∙ place_roll (Place-F.Field p k)

pub types_index : (p : Place) (i : Value) → types_of_place (place.Index p i) ≡ types_of_place p ++ types_of_value i
types_index p i = ap types_of_place (sym (place.rolls-Index p i)) ∙ place_roll (Place-F.Index p i)

pub types_variant_place : (p : Place) (n : Num) → types_of_place (place.Variant p n) ≡ types_of_place p
types_variant_place p n = ap types_of_place (sym (place.rolls-Variant p n)) ∙ place_roll (Place-F.Place::Variant p n)

pub types_int : (i : IntType) (n : Num) → types_of_value (value.Int i n) ≡ []
types_int i n = ap types_of_value (sym (value.rolls-Int i n)) ∙ value_roll (Value-F.Int i n)

pub types_true : types_of_value value.True ≡ []
types_true = ap types_of_value (sym value.rolls-True) ∙ value_roll Value-F.True

pub types_false : types_of_value value.False ≡ []
types_false = ap types_of_value (sym value.rolls-False) ∙ value_roll Value-F.False

pub types_raw : (n : ℕ) → types_of_value (value.Raw n) ≡ []
types_raw n = ap types_of_value (sym (value.rolls-Raw n)) ∙ value_roll (Value-F.Raw n)

pub types_fn : (f : FnName) → types_of_value (value.Fn f) ≡ []
types_fn f = ap types_of_value (sym (value.rolls-Fn f)) ∙ value_roll (Value-F.Fn f)

pub types_global : (g : GlobalName) (n : ℕ) → types_of_value (value.Global g n) ≡ []
types_global g n = ap types_of_value (sym (value.rolls-Global g n)) ∙ value_roll (Value-F.Global g n)

pub types_tuple : (t : Ty) (vs : List Value) → types_of_value (value.Tuple t vs) ≡ types_of t ++ types_of_values vs
types_tuple t vs = ap types_of_value (sym (value.rolls-Tuple t vs)) ∙ value_roll (Value-F.Tuple t vs) ∙ ap (λ (x : Types). types_of t ++ x) (flat_map-map (λ (x : Types). x) types_of_value vs)

pub types_union : (t : Ty) (k : ℕ) (v : Value) → types_of_value (value.Union t k v) ≡ types_of t ++ types_of_value v
types_union t k v = ap types_of_value (sym (value.rolls-Union t k v)) ∙ value_roll (Value-F.Union t k v)

pub types_variant : (t : Ty) (n : Num) (v : Value) → types_of_value (value.Variant t n v) ≡ types_of t ++ types_of_value v
types_variant t n v = ap types_of_value (sym (value.rolls-Variant t n v)) ∙ value_roll (Value-F.Value::Variant t n v)

pub types_load : (p : Place) → types_of_value (value.Load p) ≡ types_of_place p
types_load p = ap types_of_value (sym (value.rolls-Load p)) ∙ value_roll (Value-F.Load p)

pub types_disc : (p : Place) → types_of_value (value.Disc p) ≡ types_of_place p
types_disc p = ap types_of_value (sym (value.rolls-Disc p)) ∙ value_roll (Value-F.Disc p)

pub types_addr_of : (t : Ty) (p : Place) → types_of_value (value.AddrOf t p) ≡ types_of t ++ types_of_place p
types_addr_of t p = ap types_of_value (sym (value.rolls-AddrOf t p)) ∙ value_roll (Value-F.AddrOf t p)

pub types_cast : (i : IntType) (v : Value) → types_of_value (value.Cast i v) ≡ types_of_value v
types_cast i v = ap types_of_value (sym (value.rolls-Cast i v)) ∙ value_roll (Value-F.Cast i v)

pub types_transmute : (t : Ty) (v : Value) → types_of_value (value.Transmute t v) ≡ types_of t ++ types_of_value v
types_transmute t v = ap types_of_value (sym (value.rolls-Transmute t v)) ∙ value_roll (Value-F.Transmute t v)

pub types_unary : (o : UnaryOp) (v : Value) → types_of_value (value.Unary o v) ≡ types_of_value v
types_unary o v = ap types_of_value (sym (value.rolls-Unary o v)) ∙ value_roll (Value-F.Unary o v)

pub types_binary : (o : BinaryOp) (a b : Value) → types_of_value (value.Binary o a b) ≡ types_of_value a ++ types_of_value b
types_binary o a b = ap types_of_value (sym (value.rolls-Binary o a b)) ∙ value_roll (Value-F.Binary o a b)

pub ruleset written_laws = (both_in_turn, nothing_more, types_local, types_deref, types_field, types_index, types_variant_place, types_int, types_true, types_false, types_raw, types_fn, types_global, types_tuple, types_union, types_variant, types_load, types_disc, types_addr_of, types_cast, types_transmute, types_unary, types_binary)
