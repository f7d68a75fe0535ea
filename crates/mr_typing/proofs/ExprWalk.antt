-- The computed walk over a place and a value tells the rules that are broken in it, and its type where none is.
use Rattle.mr_typing.proofs.Common.{◌≡◌, ℕ, Bool, true, List, [], ◌∷◌, ◌++◌, map, length, Option, None, Some, Result, Ok, refl, sym, ap, ap₂, subst, ◌∙◌, suc, append_assoc, arith, ◌&&◌, ◌||◌, is_some, slice_get, nat_lt, flat_map, list_all, option_map, nat_tests, and_parts, Rule, IntType, U64, Num, Ty, Local, LocalName, UnaryOp, BinaryOp, Place, Value, fits_u64, is_shaped_num, is_shaped_type, Named, is_shaped_place, is_shaped_value, is_fitting, same_type, chained, discriminant_type, element_type, field_type, integer_of, overflow_type, result_type, type_of_place, type_of_value, variant_type, fits_binary, fits_parts, fits_unary, fits_union, fits_variant, is_int, is_pointer, is_raw, is_ref, is_scalar_number, same_size, Rules, Surroundings, broken_in_place, broken_in_value, is_in_global, of_type, rule, where_all_typed, where_both_typed, where_typed, ◌>>=◌, judged_place, judged_value, judged_values, kept, sound_type, there}
use Rattle.std.proofs.Common.{zero}
use Rattle.mr_ast.proofs.ShapedLaws.{shaped_local_place, shaped_deref, shaped_field_place, shaped_index_place, shaped_variant_place, shaped_tuple, shaped_union, shaped_variant, shaped_load, shaped_disc, shaped_addr_of, shaped_cast, shaped_transmute, shaped_unary, shaped_binary}
use Rattle.mr_ast.proofs.ExprInduction.{AllValues, ExprCases, place_induction, value_induction}
use Rattle.mr_typing.specs.Operands.{is_integer}
use Rattle.mr_ast.specs.declared.rule.Rule.TheVariants as form
use Rattle.mr_ast.specs.declared.types.Ty.TheVariants as ty
use Rattle.mr_ast.specs.declared.expr.BinaryOp.TheVariants as binary
use Rattle.mr_ast.specs.declared.expr.Place.TheVariants as place
use Rattle.mr_ast.specs.declared.expr.Value.TheVariants as value
use Rattle.mr_typing.proofs.Tells.{Any, Tells, tells_kept_there, tells_map, tells_right, tells_rule, tells_same, tells_then, tells_there, tells_there_kept, tells_type, tells_typed}
use Rattle.mr_typing.proofs.JudgedLaws.{judged_local, judged_deref, judged_field, judged_index, judged_variant_place, judged_int, judged_true, judged_false, judged_raw, judged_fn, judged_global, judged_tuple, judged_union, judged_variant, judged_load, judged_disc, judged_addr_of, judged_cast, judged_transmute, judged_unary, judged_binary}
use Rattle.mr_typing.proofs.TypeLaws.{type_of_local, type_of_deref, type_of_field, type_of_index, type_of_variant_place, type_of_int, type_of_true, type_of_false, type_of_raw, type_of_fn, type_of_global, type_of_tuple, type_of_union, type_of_variant, type_of_load, type_of_disc, type_of_addr_of, type_of_cast, type_of_transmute, type_of_unary, type_of_binary}
use Rattle.mr_typing.proofs.BrokenInLaws.{broken_in_local, broken_in_deref, broken_in_field, broken_in_index, broken_in_variant_place, broken_in_int, broken_in_true, broken_in_false, broken_in_raw, broken_in_fn, broken_in_global, broken_in_tuple, broken_in_union, broken_in_variant, broken_in_load, broken_in_disc, broken_in_addr_of, broken_in_cast, broken_in_transmute, broken_in_unary, broken_in_binary}

-- the answer is this type
abbrev Is : Option Ty → Ty → Type 0
Is o t = o ≡ Some t

-- ---- the type that a binary operator gives

mapped : {A B : Type 0} (f : A → B) (o : Option A) → is_some o ≡ true → is_some (option_map f o) ≡ true
mapped f None e = e
mapped f (Some x) e = refl

overflow_there : (l r : Ty) → (is_integer l && same_type l r) ≡ true → is_some (option_map overflow_type (integer_of l)) ≡ true
overflow_there l r e = mapped overflow_type (integer_of l) (and_parts (is_integer l) (same_type l r) e).0

-- an operator whose operands fit gives a type
pub result_there : (op : BinaryOp) (l r : Ty) → fits_binary op l r ≡ true → is_some (result_type op l) ≡ true
result_there binary.AddOverflow l r e = overflow_there l r e
result_there binary.SubOverflow l r e = overflow_there l r e
result_there binary.MulOverflow l r e = overflow_there l r e
result_there binary.Add l r e = refl
result_there binary.Sub l r e = refl
result_there binary.Mul l r e = refl
result_there binary.Div l r e = refl
result_there binary.Rem l r e = refl
result_there binary.And l r e = refl
result_there binary.Or l r e = refl
result_there binary.Xor l r e = refl
result_there binary.AddUnchecked l r e = refl
result_there binary.SubUnchecked l r e = refl
result_there binary.MulUnchecked l r e = refl
result_there binary.Shl l r e = refl
result_there binary.Shr l r e = refl
result_there binary.ShlUnchecked l r e = refl
result_there binary.ShrUnchecked l r e = refl
result_there binary.Eq l r e = refl
result_there binary.Ne l r e = refl
result_there binary.Lt l r e = refl
result_there binary.Le l r e = refl
result_there binary.Gt l r e = refl
result_there binary.Ge l r e = refl
result_there binary.Offset l r e = refl
result_there binary.WrappingOffset l r e = refl

-- ---- parts of a shaped expression

first_of : (a b : Bool) {c : Bool} → c ≡ (a && b) → c ≡ true → a ≡ true
first_of a b is e = (and_parts a b (sym is ∙ e)).0

second_of : (a b : Bool) {c : Bool} → c ≡ (a && b) → c ≡ true → b ≡ true
second_of a b is e = (and_parts a b (sym is ∙ e)).1

-- a local that is there has a type
local_there : {A : Type 0} (xs : List A) (i : ℕ) → nat_lt i (length xs) ≡ true → (x : A) × (slice_get xs i ≡ Some x)
local_there [] i e = absurd (not_below i e)
  where
    not_below : (i : ℕ) → nat_lt i 0 ≡ true → ⊥
    not_below i e = grind (arith, nat_tests)
local_there (x ∷ xs) zero e = (x, refl)
local_there (x ∷ xs) (suc i) e = local_there xs i (smaller i (length xs) e)
  where
    smaller : (i n : ℕ) → nat_lt (suc i) (suc n) ≡ true → nat_lt i n ≡ true
    smaller i n e = grind (arith, nat_tests)

-- these are the types of values in a row
abbrev pub Judges : Surroundings → List Value → List Ty → Type 0
Judges at vs types = map (type_of_value at.locals) vs ≡ map (λ (t : Ty). Some t) types

all_typed : (types : List Ty) (test : List Ty → Bool) → where_all_typed (map (λ (t : Ty). Some t) types) test ≡ test types
all_typed [] test = refl
all_typed (t ∷ types) test = all_typed types (λ more. test (t ∷ more))

-- a test of the types of values in a row
pub row_test : (at : Surroundings) (vs : List Value) (types : List Ty) → Judges at vs types → (test : List Ty → Bool) → where_all_typed (map (type_of_value at.locals) vs) test ≡ test types
row_test at vs types are test = ap (λ (os : List (Option Ty)). where_all_typed os test) are ∙ all_typed types test

module _ (named : Named) (at : Surroundings) (same : named.locals ≡ length at.locals) where
  abbrev PlaceTold : Place → Type 0
  PlaceTold p = is_shaped_place named p ≡ true → Tells (judged_place at p) (broken_in_place at p) (Is (type_of_place at.locals p))

  abbrev ValueTold : Value → Type 0
  ValueTold v = is_shaped_value named v ≡ true → Tells (judged_value at v) (broken_in_value at v) (Is (type_of_value at.locals v))

  -- by the equations of the three walks
  place_by : (p : Place) (r : Result Ty Rule) (rules : Rules) (o : Option Ty) → judged_place at p ≡ r → broken_in_place at p ≡ rules → type_of_place at.locals p ≡ o
      → Tells r rules (Is o) → Tells (judged_place at p) (broken_in_place at p) (Is (type_of_place at.locals p))
  place_by p r rules o er ec eo tells =
      tells_same (judged_place at p) r (broken_in_place at p) rules (Is (type_of_place at.locals p)) er ec (subst (λ (u : Option Ty). Tells r rules (Is u)) (sym eo) tells)

  value_by : (v : Value) (r : Result Ty Rule) (rules : Rules) (o : Option Ty) → judged_value at v ≡ r → broken_in_value at v ≡ rules → type_of_value at.locals v ≡ o
      → Tells r rules (Is o) → Tells (judged_value at v) (broken_in_value at v) (Is (type_of_value at.locals v))
  value_by v r rules o er ec eo tells =
      tells_same (judged_value at v) r (broken_in_value at v) rules (Is (type_of_value at.locals v)) er ec (subst (λ (u : Option Ty). Tells r rules (Is u)) (sym eo) tells)

  -- ---- places

  at_local : (x : LocalName) → PlaceTold (place.Local x)
  at_local x shaped =
      let found = local_there at.locals x.0 (subst (λ n. nat_lt x.0 n ≡ true) same (sym (shaped_local_place named x) ∙ shaped)) in
      place_by (place.Local x) _ _ _ (judged_local at x) (broken_in_local at x) (type_of_local at.locals x)
      (subst (λ (o : Option Local). Tells (there form.Place o >>= (λ l. Ok l.ty)) [] (Is (option_map (λ (l : Local). l.ty) o))) (sym found.1) (refl, refl))

  at_deref : (v : Value) (t : Ty) → ValueTold v → PlaceTold (place.Deref v t)
  at_deref v t told shaped =
      place_by (place.Deref v t) _ _ _ (judged_deref at v t) (broken_in_deref at v t ∙ append_assoc (broken_in_value at v) (of_type t) (rule form.Place (where_typed (type_of_value at.locals v) is_pointer)))
      (type_of_deref at.locals v t)
      (tells_typed (judged_value at v) (broken_in_value at v) (type_of_value at.locals v) (λ u. sound_type t >>= (λ _. kept form.Place (is_pointer u) >>= (λ _. Ok t)))
      (λ o. of_type t ++ rule form.Place (where_typed o is_pointer)) (λ _. Is (Some t))
      (told (first_of (is_shaped_value named v) (is_shaped_type t) (shaped_deref named v t) shaped))
      (λ u. tells_then (sound_type t) (of_type t) (rule form.Place (is_pointer u)) Any (λ _. kept form.Place (is_pointer u) >>= (λ _. Ok t)) (Is (Some t)) (tells_type t) (λ _ _. tells_rule form.Place (is_pointer u) t (Is (Some t)) refl)))

  at_field : (p : Place) (k : ℕ) → PlaceTold p → PlaceTold (place.Field p k)
  at_field p k told shaped =
      place_by (place.Field p k) _ _ _ (judged_field at p k) (broken_in_field at p k) (type_of_field at.locals p k)
      (tells_typed (judged_place at p) (broken_in_place at p) (type_of_place at.locals p) (λ t. there form.Place (field_type t k))
      (λ o. rule form.Place (where_typed o (λ t. is_some (field_type t k)))) (λ o. Is (chained o (λ t. field_type t k)))
      (told (first_of (is_shaped_place named p) (fits_u64 k) (shaped_field_place named p k) shaped))
      (λ t. tells_there form.Place (field_type t k)))

  at_index : (p : Place) (i : Value) → PlaceTold p → ValueTold i → PlaceTold (place.Index p i)
  at_index p i told index shaped =
      let last = rule form.Place (where_both_typed (type_of_place at.locals p) (type_of_value at.locals i) (λ t u. is_some (element_type t) && is_int U64 u)) in
      place_by (place.Index p i) _ _ _ (judged_index at p i) (broken_in_index at p i ∙ append_assoc (broken_in_place at p) (broken_in_value at i) last) (type_of_index at.locals p i)
      (tells_typed (judged_place at p) (broken_in_place at p) (type_of_place at.locals p)
      (λ t. judged_value at i >>= (λ u. there form.Place (element_type t) >>= (λ elem. kept form.Place (is_int U64 u) >>= (λ _. Ok elem))))
      (λ o. broken_in_value at i ++ rule form.Place (where_both_typed o (type_of_value at.locals i) (λ t u. is_some (element_type t) && is_int U64 u)))
      (λ o. Is (chained o element_type))
      (told (first_of (is_shaped_place named p) (is_shaped_value named i) (shaped_index_place named p i) shaped))
      (λ t. tells_typed (judged_value at i) (broken_in_value at i) (type_of_value at.locals i)
      (λ u. there form.Place (element_type t) >>= (λ elem. kept form.Place (is_int U64 u) >>= (λ _. Ok elem)))
      (λ o. rule form.Place (where_typed o (λ u. is_some (element_type t) && is_int U64 u))) (λ _. Is (element_type t))
      (index (second_of (is_shaped_place named p) (is_shaped_value named i) (shaped_index_place named p i) shaped))
      (λ u. tells_there_kept form.Place (element_type t) (is_int U64 u))))

  at_variant_place : (p : Place) (n : Num) → PlaceTold p → PlaceTold (place.Variant p n)
  at_variant_place p n told shaped =
      place_by (place.Variant p n) _ _ _ (judged_variant_place at p n) (broken_in_variant_place at p n) (type_of_variant_place at.locals p n)
      (tells_typed (judged_place at p) (broken_in_place at p) (type_of_place at.locals p) (λ t. there form.Place (variant_type t n))
      (λ o. rule form.Place (where_typed o (λ t. is_some (variant_type t n)))) (λ o. Is (chained o (λ t. variant_type t n)))
      (told (first_of (is_shaped_place named p) (is_shaped_num n) (shaped_variant_place named p n) shaped))
      (λ t. tells_there form.Place (variant_type t n)))

  -- ---- values in a row

  abbrev ValuesTold : List Value → Type 0
  ValuesTold vs = Tells (judged_values at vs) (flat_map (broken_in_value at) vs) (Judges at vs)

  values_told : (vs : List Value) → AllValues ValueTold vs → list_all (is_shaped_value named) vs ≡ true → ValuesTold vs
  values_told [] all shaped = (refl, refl)
  values_told (v ∷ vs) all shaped =
      let p = and_parts (is_shaped_value named v) (list_all (is_shaped_value named) vs) shaped in
      tells_then (judged_value at v) (broken_in_value at v) (flat_map (broken_in_value at) vs) (Is (type_of_value at.locals v)) (λ t. judged_values at vs >>= (λ ts. Ok (t ∷ ts))) (Judges at (v ∷ vs))
      (all.0 p.0)
      (λ t e. tells_map (judged_values at vs) (flat_map (broken_in_value at) vs) (Judges at vs) (λ ts. t ∷ ts) (Judges at (v ∷ vs))
      (values_told vs all.1 p.1) (λ ts are. ap₂ (λ (o : Option Ty) (os : List (Option Ty)). o ∷ os) e are))

  -- ---- values

  at_int : (i : IntType) (n : Num) → ValueTold (value.Int i n)
  at_int i n shaped =
      value_by (value.Int i n) _ _ _ (judged_int at i n) (broken_in_int at i n) (type_of_int at.locals i n) (tells_rule form.ConstRange (is_fitting i n) (ty.Int i) (Is (Some (ty.Int i))) refl)

  at_tuple : (t : Ty) (vs : List Value) → AllValues ValueTold vs → ValueTold (value.Tuple t vs)
  at_tuple t vs all shaped =
      let told = values_told vs all (second_of (is_shaped_type t) (list_all (is_shaped_value named) vs) (shaped_tuple named t vs) shaped) in
      let last = rule form.Aggregate (where_all_typed (map (type_of_value at.locals) vs) (fits_parts t)) in
      value_by (value.Tuple t vs) _ _ _ (judged_tuple at t vs) (broken_in_tuple at t vs ∙ append_assoc (of_type t) (flat_map (broken_in_value at) vs) last) (type_of_tuple at.locals t vs)
      (tells_then (sound_type t) (of_type t) (flat_map (broken_in_value at) vs ++ last) Any
      (λ _. judged_values at vs >>= (λ types. kept form.Aggregate (fits_parts t types) >>= (λ _. Ok t))) (Is (Some t)) (tells_type t)
      (λ _ _. tells_then (judged_values at vs) (flat_map (broken_in_value at) vs) last (Judges at vs)
      (λ types. kept form.Aggregate (fits_parts t types) >>= (λ _. Ok t)) (Is (Some t)) told
      (λ types are. subst (λ (b : Bool). Tells (kept form.Aggregate (fits_parts t types) >>= (λ _. Ok t)) (rule form.Aggregate b) (Is (Some t))) (sym (row_test at vs types are (fits_parts t))) (tells_rule form.Aggregate (fits_parts t types) t (Is (Some t)) refl))))

  -- a value that is written with its type and has one part
  typed_part : (t : Ty) (v : Value) (broken : Rule) (test : Ty → Bool) → Tells (judged_value at v) (broken_in_value at v) (Is (type_of_value at.locals v))
      → Tells (sound_type t >>= (λ _. judged_value at v >>= (λ u. kept broken (test u) >>= (λ _. Ok t)))) ((of_type t ++ broken_in_value at v) ++ rule broken (where_typed (type_of_value at.locals v) test)) (Is (Some t))
  typed_part t v broken test told =
      let rest : Unit {0} → Result Ty Rule = λ _. judged_value at v >>= (λ u. kept broken (test u) >>= (λ _. Ok t)) in
      let last = rule broken (where_typed (type_of_value at.locals v) test) in
      tells_right (sound_type t >>= rest) (of_type t) (broken_in_value at v) last (Is (Some t))
      (tells_then (sound_type t) (of_type t) (broken_in_value at v ++ last) Any rest (Is (Some t)) (tells_type t)
      (λ _ _. tells_typed (judged_value at v) (broken_in_value at v) (type_of_value at.locals v) (λ u. kept broken (test u) >>= (λ _. Ok t))
      (λ o. rule broken (where_typed o test)) (λ _. Is (Some t)) told (λ u. tells_rule broken (test u) t (Is (Some t)) refl)))

  at_union : (t : Ty) (k : ℕ) (v : Value) → ValueTold v → ValueTold (value.Union t k v)
  at_union t k v told shaped =
      let part = second_of (is_shaped_type t) (fits_u64 k && is_shaped_value named v) (shaped_union named t k v) shaped in
      value_by (value.Union t k v) _ _ _ (judged_union at t k v) (broken_in_union at t k v) (type_of_union at.locals t k v)
      (typed_part t v form.Aggregate (fits_union t k) (told (and_parts (fits_u64 k) (is_shaped_value named v) part).1))

  at_variant : (t : Ty) (n : Num) (v : Value) → ValueTold v → ValueTold (value.Variant t n v)
  at_variant t n v told shaped =
      let part = second_of (is_shaped_type t) (is_shaped_num n && is_shaped_value named v) (shaped_variant named t n v) shaped in
      value_by (value.Variant t n v) _ _ _ (judged_variant at t n v) (broken_in_variant at t n v) (type_of_variant at.locals t n v)
      (typed_part t v form.Aggregate (fits_variant t n) (told (and_parts (is_shaped_num n) (is_shaped_value named v) part).1))

  at_load : (p : Place) → PlaceTold p → ValueTold (value.Load p)
  at_load p told shaped =
      value_by (value.Load p) _ _ _ (judged_load at p) (broken_in_load at p) (type_of_load at.locals p) (told (sym (shaped_load named p) ∙ shaped))

  at_disc : (p : Place) → PlaceTold p → ValueTold (value.Disc p)
  at_disc p told shaped =
      value_by (value.Disc p) _ _ _ (judged_disc at p) (broken_in_disc at p) (type_of_disc at.locals p)
      (tells_typed (judged_place at p) (broken_in_place at p) (type_of_place at.locals p) (λ t. there form.Discriminant (discriminant_type t))
      (λ o. rule form.Discriminant (where_typed o (λ t. is_some (discriminant_type t)))) (λ o. Is (chained o discriminant_type))
      (told (sym (shaped_disc named p) ∙ shaped)) (λ t. tells_there form.Discriminant (discriminant_type t)))

  at_addr_of : (t : Ty) (p : Place) → PlaceTold p → ValueTold (value.AddrOf t p)
  at_addr_of t p told shaped =
      let part = told (second_of (is_shaped_type t) (is_shaped_place named p) (shaped_addr_of named t p) shaped) in
      let ok = is_raw t || is_ref t in
      value_by (value.AddrOf t p) _ _ _ (judged_addr_of at t p) (broken_in_addr_of at t p ∙ append_assoc (of_type t) (broken_in_place at p) (rule form.Cast ok)) (type_of_addr_of at.locals t p)
      (tells_then (sound_type t) (of_type t) (broken_in_place at p ++ rule form.Cast ok) Any (λ _. judged_place at p >>= (λ _. kept form.Cast ok >>= (λ _. Ok t))) (Is (Some t)) (tells_type t)
      (λ _ _. tells_then (judged_place at p) (broken_in_place at p) (rule form.Cast ok) (Is (type_of_place at.locals p)) (λ _. kept form.Cast ok >>= (λ _. Ok t)) (Is (Some t)) part
      (λ _ _. tells_rule form.Cast ok t (Is (Some t)) refl)))

  at_cast : (i : IntType) (v : Value) → ValueTold v → ValueTold (value.Cast i v)
  at_cast i v told shaped =
      value_by (value.Cast i v) _ _ _ (judged_cast at i v) (broken_in_cast at i v) (type_of_cast at.locals i v)
      (tells_typed (judged_value at v) (broken_in_value at v) (type_of_value at.locals v) (λ u. kept form.Cast (is_scalar_number u) >>= (λ _. Ok (ty.Int i)))
      (λ o. rule form.Cast (where_typed o is_scalar_number)) (λ _. Is (Some (ty.Int i)))
      (told (sym (shaped_cast named i v) ∙ shaped)) (λ u. tells_rule form.Cast (is_scalar_number u) (ty.Int i) (Is (Some (ty.Int i))) refl))

  at_transmute : (t : Ty) (v : Value) → ValueTold v → ValueTold (value.Transmute t v)
  at_transmute t v told shaped =
      value_by (value.Transmute t v) _ _ _ (judged_transmute at t v) (broken_in_transmute at t v) (type_of_transmute at.locals t v)
      (typed_part t v form.Cast (same_size t) (told (second_of (is_shaped_type t) (is_shaped_value named v) (shaped_transmute named t v) shaped)))

  at_unary : (o : UnaryOp) (v : Value) → ValueTold v → ValueTold (value.Unary o v)
  at_unary o v told shaped =
      value_by (value.Unary o v) _ _ _ (judged_unary at o v) (broken_in_unary at o v) (type_of_unary at.locals o v)
      (tells_typed (judged_value at v) (broken_in_value at v) (type_of_value at.locals v) (λ u. kept form.Operand (fits_unary o u) >>= (λ _. Ok u))
      (λ x. rule form.Operand (where_typed x (fits_unary o))) Is
      (told (sym (shaped_unary named o v) ∙ shaped)) (λ u. tells_rule form.Operand (fits_unary o u) u (Is (Some u)) refl))

  at_binary : (o : BinaryOp) (a b : Value) → ValueTold a → ValueTold b → ValueTold (value.Binary o a b)
  at_binary o a b left right shaped =
      let last = rule form.Operand (where_both_typed (type_of_value at.locals a) (type_of_value at.locals b) (fits_binary o)) in
      value_by (value.Binary o a b) _ _ _ (judged_binary at o a b) (broken_in_binary at o a b ∙ append_assoc (broken_in_value at a) (broken_in_value at b) last) (type_of_binary at.locals o a b)
      (tells_typed (judged_value at a) (broken_in_value at a) (type_of_value at.locals a)
      (λ l. judged_value at b >>= (λ r. kept form.Operand (fits_binary o l r) >>= (λ _. there form.Operand (result_type o l))))
      (λ x. broken_in_value at b ++ rule form.Operand (where_both_typed x (type_of_value at.locals b) (fits_binary o)))
      (λ x. Is (chained x (result_type o)))
      (left (first_of (is_shaped_value named a) (is_shaped_value named b) (shaped_binary named o a b) shaped))
      (λ l. tells_typed (judged_value at b) (broken_in_value at b) (type_of_value at.locals b)
      (λ r. kept form.Operand (fits_binary o l r) >>= (λ _. there form.Operand (result_type o l)))
      (λ y. rule form.Operand (where_typed y (fits_binary o l))) (λ _. Is (result_type o l))
      (right (second_of (is_shaped_value named a) (is_shaped_value named b) (shaped_binary named o a b) shaped))
      (λ r. tells_kept_there form.Operand (fits_binary o l r) (result_type o l) (result_there o l r))))

  told_cases : ExprCases PlaceTold ValueTold
  told_cases = record {
    at_local = at_local;
    at_deref = at_deref;
    at_field = at_field;
    at_index = at_index;
    at_variant_place = at_variant_place;
    at_int = at_int;
    at_true = λ shaped. value_by value.True _ _ _ (judged_true at) (broken_in_true at) (type_of_true at.locals) (refl, refl);
    at_false = λ shaped. value_by value.False _ _ _ (judged_false at) (broken_in_false at) (type_of_false at.locals) (refl, refl);
    at_raw = λ n shaped. value_by (value.Raw n) _ _ _ (judged_raw at n) (broken_in_raw at n) (type_of_raw at.locals n) (refl, refl);
    at_fn = λ f shaped. value_by (value.Fn f) _ _ _ (judged_fn at f) (broken_in_fn at f) (type_of_fn at.locals f) (refl, refl);
    at_global = λ g n shaped. value_by (value.Global g n) _ _ _ (judged_global at g n) (broken_in_global at g n) (type_of_global at.locals g n) (tells_rule form.GlobalRef (is_in_global at.sizes g.0 n) ty.Raw (Is (Some ty.Raw)) refl);
    at_tuple = at_tuple;
    at_union = at_union;
    at_variant = at_variant;
    at_load = at_load;
    at_disc = at_disc;
    at_addr_of = at_addr_of;
    at_cast = at_cast;
    at_transmute = at_transmute;
    at_unary = at_unary;
    at_binary = at_binary;
  }

  pub place_told : (p : Place) → is_shaped_place named p ≡ true → Tells (judged_place at p) (broken_in_place at p) (λ t. type_of_place at.locals p ≡ Some t)
  place_told = place_induction PlaceTold ValueTold told_cases

  pub value_told : (v : Value) → is_shaped_value named v ≡ true → Tells (judged_value at v) (broken_in_value at v) (λ t. type_of_value at.locals v ≡ Some t)
  value_told = value_induction PlaceTold ValueTold told_cases

  pub row_told : (vs : List Value) → list_all (is_shaped_value named) vs ≡ true → Tells (judged_values at vs) (flat_map (broken_in_value at) vs) (Judges at vs)
  row_told vs = values_told vs (every vs)
    where
      every : (vs : List Value) → AllValues ValueTold vs
      every [] = tt
      every (v ∷ vs) = (value_told v, every vs)
