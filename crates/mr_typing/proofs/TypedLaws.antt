-- An expression that breaks no rule has a type, and its parts have types that fit.
use Rattle.mr_typing.proofs.Common.{◌≡◌, ℕ, Bool, true, List, [], ◌++◌, map, length, Option, Some, refl, sym, ap, ◌∙◌, ◌&&◌, ◌||◌, is_some, flat_map, list_all, and_parts, Rule, IntType, U64, Num, Ty, UnaryOp, BinaryOp, Place, Value, is_shaped_type, is_shaped_num, fits_u64, Named, is_shaped_place, is_shaped_value, is_fitting, TypeOk, discriminant_type, element_type, field_type, type_of_place, type_of_value, variant_type, fits_binary, fits_parts, fits_unary, fits_union, fits_variant, is_int, is_pointer, is_raw, is_ref, is_scalar_number, same_size, Surroundings, broken_in_place, broken_in_value, of_type, rule, where_all_typed, where_both_typed, where_typed, judged_place, judged_value, judged_values}
use Rattle.mr_ast.proofs.ShapedLaws.{shaped_deref, shaped_field_place, shaped_index_place, shaped_variant_place, shaped_tuple, shaped_union, shaped_variant, shaped_load, shaped_disc, shaped_addr_of, shaped_cast, shaped_transmute, shaped_unary, shaped_binary}
use Rattle.mr_ast.specs.declared.rule.Rule.TheVariants as form
use Rattle.mr_ast.specs.declared.expr.Place.TheVariants as place
use Rattle.mr_ast.specs.declared.expr.Value.TheVariants as value
use Rattle.mr_typing.proofs.NothingLaws.{both_nothing, rule_kept, three_nothing, type_kept}
use Rattle.mr_typing.proofs.Tells.{tells_unbroken}
use Rattle.mr_typing.proofs.ExprWalk.{Judges, place_told, row_test, row_told, value_told}
use Rattle.mr_typing.proofs.BrokenInLaws.{broken_in_deref, broken_in_field, broken_in_index, broken_in_variant_place, broken_in_int, broken_in_tuple, broken_in_union, broken_in_variant, broken_in_load, broken_in_disc, broken_in_addr_of, broken_in_cast, broken_in_transmute, broken_in_unary, broken_in_binary}

-- ---- parts

-- a value that breaks no rule and has a type that passes a test
pub record TypedValue (at : Surroundings) (v : Value) (test : Ty → Bool) : Type 0 where
  pub ty : Ty
  pub is : type_of_value at.locals v ≡ Some ty
  pub unbroken : broken_in_value at v ≡ []
  pub fits : test ty ≡ true

-- the same of a place
pub record TypedPlace (at : Surroundings) (p : Place) (test : Ty → Bool) : Type 0 where
  pub ty : Ty
  pub is : type_of_place at.locals p ≡ Some ty
  pub unbroken : broken_in_place at p ≡ []
  pub fits : test ty ≡ true

-- two values whose types fit each other
pub record TypedBoth (at : Surroundings) (a b : Value) (test : Ty → Ty → Bool) : Type 0 where
  pub left : Ty
  pub right : Ty
  pub is_left : type_of_value at.locals a ≡ Some left
  pub is_right : type_of_value at.locals b ≡ Some right
  pub unbroken_left : broken_in_value at a ≡ []
  pub unbroken_right : broken_in_value at b ≡ []
  pub fits : test left right ≡ true

-- values in a row
pub record TypedRow (at : Surroundings) (vs : List Value) (test : List Ty → Bool) : Type 0 where
  pub types : List Ty
  pub are : Judges at vs types
  pub unbroken : flat_map (broken_in_value at) vs ≡ []
  pub fits : test types ≡ true

-- nothing is asked of a type
abbrev pub any_type : Ty → Bool
any_type t = true

module _ (named : Named) (at : Surroundings) (same : named.locals ≡ length at.locals) where
  pub typed_value : (v : Value) → is_shaped_value named v ≡ true → broken_in_value at v ≡ [] → (t : Ty) × (type_of_value at.locals v ≡ Some t)
  typed_value v shaped e = tells_unbroken (judged_value at v) (broken_in_value at v) (λ t. type_of_value at.locals v ≡ Some t) (value_told named at same v shaped) e

  pub typed_place : (p : Place) → is_shaped_place named p ≡ true → broken_in_place at p ≡ [] → (t : Ty) × (type_of_place at.locals p ≡ Some t)
  typed_place p shaped e = tells_unbroken (judged_place at p) (broken_in_place at p) (λ t. type_of_place at.locals p ≡ Some t) (place_told named at same p shaped) e

  pub value_fits : (v : Value) (broken : Rule) (test : Ty → Bool) → is_shaped_value named v ≡ true → broken_in_value at v ≡ [] → rule broken (where_typed (type_of_value at.locals v) test) ≡ [] → TypedValue at v test
  value_fits v broken test shaped none kept =
      let t = typed_value v shaped none in
      record { ty = t.0; is = t.1; unbroken = none; fits = sym (ap (λ (o : Option Ty). where_typed o test) t.1) ∙ rule_kept broken (where_typed (type_of_value at.locals v) test) kept }

  pub place_fits : (p : Place) (broken : Rule) (test : Ty → Bool) → is_shaped_place named p ≡ true → broken_in_place at p ≡ [] → rule broken (where_typed (type_of_place at.locals p) test) ≡ [] → TypedPlace at p test
  place_fits p broken test shaped none kept =
      let t = typed_place p shaped none in
      record { ty = t.0; is = t.1; unbroken = none; fits = sym (ap (λ (o : Option Ty). where_typed o test) t.1) ∙ rule_kept broken (where_typed (type_of_place at.locals p) test) kept }

  pub typed_row : (vs : List Value) → list_all (is_shaped_value named) vs ≡ true → flat_map (broken_in_value at) vs ≡ [] → (types : List Ty) × Judges at vs types
  typed_row vs shaped none = tells_unbroken (judged_values at vs) (flat_map (broken_in_value at) vs) (Judges at vs) (row_told named at same vs shaped) none

  pub row_fits : (vs : List Value) (broken : Rule) (test : List Ty → Bool) → list_all (is_shaped_value named) vs ≡ true → flat_map (broken_in_value at) vs ≡ []
      → rule broken (where_all_typed (map (type_of_value at.locals) vs) test) ≡ [] → TypedRow at vs test
  row_fits vs broken test shaped none kept =
      let ts = typed_row vs shaped none in
      record { types = ts.0; are = ts.1; unbroken = none; fits = sym (row_test at vs ts.0 ts.1 test) ∙ rule_kept broken (where_all_typed (map (type_of_value at.locals) vs) test) kept }

  -- ---- places

  pub typed_deref : (v : Value) (t : Ty) → is_shaped_place named (place.Deref v t) ≡ true → broken_in_place at (place.Deref v t) ≡ [] → TypedValue at v is_pointer × TypeOk t
  typed_deref v t shaped e =
      let s = and_parts (is_shaped_value named v) (is_shaped_type t) (sym (shaped_deref named v t) ∙ shaped) in
      let none = three_nothing (broken_in_value at v) (of_type t) (rule form.Place (where_typed (type_of_value at.locals v) is_pointer)) (sym (broken_in_deref at v t) ∙ e) in
      (value_fits v form.Place is_pointer s.0 none.0 none.2, type_kept t none.1)

  pub typed_field : (p : Place) (k : ℕ) → is_shaped_place named (place.Field p k) ≡ true → broken_in_place at (place.Field p k) ≡ [] → TypedPlace at p (λ t. is_some (field_type t k))
  typed_field p k shaped e =
      let s = and_parts (is_shaped_place named p) (fits_u64 k) (sym (shaped_field_place named p k) ∙ shaped) in
      let a = both_nothing (broken_in_place at p) (rule form.Place (where_typed (type_of_place at.locals p) (λ t. is_some (field_type t k)))) (sym (broken_in_field at p k) ∙ e) in
      place_fits p form.Place (λ t. is_some (field_type t k)) s.0 a.0 a.1

  pub typed_variant_place : (p : Place) (n : Num) → is_shaped_place named (place.Variant p n) ≡ true → broken_in_place at (place.Variant p n) ≡ [] → TypedPlace at p (λ t. is_some (variant_type t n))
  typed_variant_place p n shaped e =
      let s = and_parts (is_shaped_place named p) (is_shaped_num n) (sym (shaped_variant_place named p n) ∙ shaped) in
      let a = both_nothing (broken_in_place at p) (rule form.Place (where_typed (type_of_place at.locals p) (λ t. is_some (variant_type t n)))) (sym (broken_in_variant_place at p n) ∙ e) in
      place_fits p form.Place (λ t. is_some (variant_type t n)) s.0 a.0 a.1

  pub typed_index : (p : Place) (i : Value) → is_shaped_place named (place.Index p i) ≡ true → broken_in_place at (place.Index p i) ≡ []
      → TypedPlace at p (λ t. is_some (element_type t)) × TypedValue at i (is_int U64)
  typed_index p i shaped e =
      let test : Ty → Ty → Bool = λ t u. is_some (element_type t) && is_int U64 u in
      let kept = where_both_typed (type_of_place at.locals p) (type_of_value at.locals i) test in
      let s = and_parts (is_shaped_place named p) (is_shaped_value named i) (sym (shaped_index_place named p i) ∙ shaped) in
      let none = three_nothing (broken_in_place at p) (broken_in_value at i) (rule form.Place kept) (sym (broken_in_index at p i) ∙ e) in
      let array = typed_place p s.0 none.0 in
      let index = typed_value i s.1 none.1 in
      let fits = sym (ap (λ (o : Option Ty). where_both_typed o (type_of_value at.locals i) test) array.1 ∙ ap (λ (o : Option Ty). where_typed o (test array.0)) index.1) ∙ rule_kept form.Place kept none.2 in
      let each = and_parts (is_some (element_type array.0)) (is_int U64 index.0) fits in
      (record { ty = array.0; is = array.1; unbroken = none.0; fits = each.0 }, record { ty = index.0; is = index.1; unbroken = none.1; fits = each.1 })

  -- ---- values

  pub typed_int : (i : IntType) (n : Num) → broken_in_value at (value.Int i n) ≡ [] → is_fitting i n ≡ true
  typed_int i n e = rule_kept form.ConstRange (is_fitting i n) (sym (broken_in_int at i n) ∙ e)

  pub typed_tuple : (t : Ty) (vs : List Value) → is_shaped_value named (value.Tuple t vs) ≡ true → broken_in_value at (value.Tuple t vs) ≡ [] → TypeOk t × TypedRow at vs (fits_parts t)
  typed_tuple t vs shaped e =
      let kept = rule form.Aggregate (where_all_typed (map (type_of_value at.locals) vs) (fits_parts t)) in
      let s = and_parts (is_shaped_type t) (list_all (is_shaped_value named) vs) (sym (shaped_tuple named t vs) ∙ shaped) in
      let none = three_nothing (of_type t) (flat_map (broken_in_value at) vs) kept (sym (broken_in_tuple at t vs) ∙ e) in
      (type_kept t none.0, row_fits vs form.Aggregate (fits_parts t) s.1 none.1 none.2)

  -- a value that is written with its type and has one part
  written : (t : Ty) (v : Value) (broken : Rule) (test : Ty → Bool) → is_shaped_value named v ≡ true
      → (of_type t ++ broken_in_value at v) ++ rule broken (where_typed (type_of_value at.locals v) test) ≡ [] → TypeOk t × TypedValue at v test
  written t v broken test shaped e =
      let none = three_nothing (of_type t) (broken_in_value at v) (rule broken (where_typed (type_of_value at.locals v) test)) e in
      (type_kept t none.0, value_fits v broken test shaped none.1 none.2)

  pub typed_union : (t : Ty) (k : ℕ) (v : Value) → is_shaped_value named (value.Union t k v) ≡ true → broken_in_value at (value.Union t k v) ≡ [] → TypeOk t × TypedValue at v (fits_union t k)
  typed_union t k v shaped e =
      let s = and_parts (is_shaped_type t) (fits_u64 k && is_shaped_value named v) (sym (shaped_union named t k v) ∙ shaped) in
      written t v form.Aggregate (fits_union t k) (and_parts (fits_u64 k) (is_shaped_value named v) s.1).1 (sym (broken_in_union at t k v) ∙ e)

  pub typed_variant : (t : Ty) (n : Num) (v : Value) → is_shaped_value named (value.Variant t n v) ≡ true → broken_in_value at (value.Variant t n v) ≡ [] → TypeOk t × TypedValue at v (fits_variant t n)
  typed_variant t n v shaped e =
      let s = and_parts (is_shaped_type t) (is_shaped_num n && is_shaped_value named v) (sym (shaped_variant named t n v) ∙ shaped) in
      written t v form.Aggregate (fits_variant t n) (and_parts (is_shaped_num n) (is_shaped_value named v) s.1).1 (sym (broken_in_variant at t n v) ∙ e)

  pub typed_transmute : (t : Ty) (v : Value) → is_shaped_value named (value.Transmute t v) ≡ true → broken_in_value at (value.Transmute t v) ≡ [] → TypeOk t × TypedValue at v (same_size t)
  typed_transmute t v shaped e =
      written t v form.Cast (same_size t) (and_parts (is_shaped_type t) (is_shaped_value named v) (sym (shaped_transmute named t v) ∙ shaped)).1 (sym (broken_in_transmute at t v) ∙ e)

  pub typed_load : (p : Place) → is_shaped_value named (value.Load p) ≡ true → broken_in_value at (value.Load p) ≡ [] → TypedPlace at p any_type
  typed_load p shaped e =
      let none = sym (broken_in_load at p) ∙ e in
      let t = typed_place p (sym (shaped_load named p) ∙ shaped) none in
      record { ty = t.0; is = t.1; unbroken = none; fits = refl }

  pub typed_disc : (p : Place) → is_shaped_value named (value.Disc p) ≡ true → broken_in_value at (value.Disc p) ≡ [] → TypedPlace at p (λ t. is_some (discriminant_type t))
  typed_disc p shaped e =
      let a = both_nothing (broken_in_place at p) (rule form.Discriminant (where_typed (type_of_place at.locals p) (λ t. is_some (discriminant_type t)))) (sym (broken_in_disc at p) ∙ e) in
      place_fits p form.Discriminant (λ t. is_some (discriminant_type t)) (sym (shaped_disc named p) ∙ shaped) a.0 a.1

  pub typed_addr_of : (t : Ty) (p : Place) → is_shaped_value named (value.AddrOf t p) ≡ true → broken_in_value at (value.AddrOf t p) ≡ []
      → TypeOk t × ((is_raw t || is_ref t) ≡ true) × TypedPlace at p any_type
  typed_addr_of t p shaped e =
      let s = and_parts (is_shaped_type t) (is_shaped_place named p) (sym (shaped_addr_of named t p) ∙ shaped) in
      let none = three_nothing (of_type t) (broken_in_place at p) (rule form.Cast (is_raw t || is_ref t)) (sym (broken_in_addr_of at t p) ∙ e) in
      let u = typed_place p s.1 none.1 in
      (type_kept t none.0, rule_kept form.Cast (is_raw t || is_ref t) none.2, record { ty = u.0; is = u.1; unbroken = none.1; fits = refl })

  pub typed_cast : (i : IntType) (v : Value) → is_shaped_value named (value.Cast i v) ≡ true → broken_in_value at (value.Cast i v) ≡ [] → TypedValue at v is_scalar_number
  typed_cast i v shaped e =
      let a = both_nothing (broken_in_value at v) (rule form.Cast (where_typed (type_of_value at.locals v) is_scalar_number)) (sym (broken_in_cast at i v) ∙ e) in
      value_fits v form.Cast is_scalar_number (sym (shaped_cast named i v) ∙ shaped) a.0 a.1

  pub typed_unary : (o : UnaryOp) (v : Value) → is_shaped_value named (value.Unary o v) ≡ true → broken_in_value at (value.Unary o v) ≡ [] → TypedValue at v (fits_unary o)
  typed_unary o v shaped e =
      let a = both_nothing (broken_in_value at v) (rule form.Operand (where_typed (type_of_value at.locals v) (fits_unary o))) (sym (broken_in_unary at o v) ∙ e) in
      value_fits v form.Operand (fits_unary o) (sym (shaped_unary named o v) ∙ shaped) a.0 a.1

  pub typed_binary : (o : BinaryOp) (a b : Value) → is_shaped_value named (value.Binary o a b) ≡ true → broken_in_value at (value.Binary o a b) ≡ [] → TypedBoth at a b (fits_binary o)
  typed_binary o a b shaped e =
      let kept = where_both_typed (type_of_value at.locals a) (type_of_value at.locals b) (fits_binary o) in
      let s = and_parts (is_shaped_value named a) (is_shaped_value named b) (sym (shaped_binary named o a b) ∙ shaped) in
      let none = three_nothing (broken_in_value at a) (broken_in_value at b) (rule form.Operand kept) (sym (broken_in_binary at o a b) ∙ e) in
      let l = typed_value a s.0 none.0 in
      let r = typed_value b s.1 none.1 in
      record {
        left = l.0;
        right = r.0;
        is_left = l.1;
        is_right = r.1;
        unbroken_left = none.0;
        unbroken_right = none.1;
        fits = sym (ap (λ (u : Option Ty). where_both_typed u (type_of_value at.locals b) (fits_binary o)) l.1 ∙ ap (λ (u : Option Ty). where_typed u (fits_binary o l.0)) r.1) ∙ rule_kept form.Operand kept none.2;
      }
