-- How much expressions weigh: the number of their nodes, by which their evaluation ends.
use Rattle.mr_eval.proofs.Common.{◌≡◌, ℕ, zero, suc, ◌+◌, ◌<◌, List, [], ◌∷◌, map, length, get_or, arith, refl, sym, ap, ◌∙◌, IntType, Num, Ty, BinaryOp, UnaryOp, Place, roll-Place, Value, roll-Value}
use Rattle.mr_ast.specs.declared.expr.Place.TheOpen.{Place-F, Value-F}
use Rattle.mr_ast.specs.declared.expr.Place.TheFolds.{fold-Place, fold-Value, fold-roll-Place, fold-roll-Value, map-Place, map-Value}
use Rattle.mr_ast.specs.declared.expr.Place.TheVariants as place
use Rattle.mr_ast.specs.declared.expr.Value.TheVariants as value

-- the weights of values in a row, and one more for each
abbrev pub row_sum : List ℕ → ℕ
row_sum [] = 0
row_sum (w ∷ ws) = w + 1 + row_sum ws

abbrev place_step : Place-F ℕ ℕ → ℕ
place_step (Place-F.Local x) = 1
place_step (Place-F.Deref v t) = 1 + v
place_step (Place-F.Field p k) = 1 + p
place_step (Place-F.Index p i) = 1 + (p + i)
place_step (Place-F.Place::Variant p n) = 1 + p

abbrev value_step : Value-F ℕ ℕ → ℕ
value_step (Value-F.Tuple t vs) = 1 + row_sum vs
value_step (Value-F.Union t k v) = 1 + v
value_step (Value-F.Value::Variant t n v) = 1 + v
value_step (Value-F.Load p) = 1 + p
value_step (Value-F.Disc p) = 1 + p
value_step (Value-F.AddrOf t p) = 1 + p
value_step (Value-F.Cast i v) = 1 + v
value_step (Value-F.Transmute t v) = 1 + v
value_step (Value-F.Unary o v) = 1 + v
value_step (Value-F.Binary o a b) = 1 + (a + b)
value_step _ = 1

unfoldable pub place_weight : Place → ℕ
place_weight = fold-Place ℕ ℕ place_step value_step

unfoldable pub value_weight : Value → ℕ
value_weight = fold-Value ℕ ℕ place_step value_step

abbrev pub row_weight : List Value → ℕ
row_weight [] = 0
row_weight (v ∷ vs) = value_weight v + 1 + row_weight vs

place_roll : (d : Place-F Place Value) → place_weight (roll-Place d) ≡ place_step (map-Place Place Value ℕ ℕ place_weight value_weight d)
unfolding place_weight value_weight
place_roll d = fold-roll-Place ℕ ℕ place_step value_step d

value_roll : (d : Value-F Place Value) → value_weight (roll-Value d) ≡ value_step (map-Value Place Value ℕ ℕ place_weight value_weight d)
unfolding place_weight value_weight
value_roll d = fold-roll-Value ℕ ℕ place_step value_step d

pub weight_deref : (v : Value) (t : Ty) → place_weight (place.Deref v t) ≡ 1 + value_weight v
weight_deref v t = ap place_weight (sym (place.rolls-Deref v t)) ∙ place_roll (Place-F.Deref v t)

pub weight_field : (p : Place) (k : ℕ) → place_weight (place.Field p k) ≡ 1 + place_weight p
weight_field p k = ap place_weight (sym (place.rolls-Field p k)) ∙ place_roll (Place-F.Field p k)

pub weight_index : (p : Place) (i : Value) → place_weight (place.Index p i) ≡ 1 + (place_weight p + value_weight i)
weight_index p i = ap place_weight (sym (place.rolls-Index p i)) ∙ place_roll (Place-F.Index p i)

pub weight_variant_place : (p : Place) (n : Num) → place_weight (place.Variant p n) ≡ 1 + place_weight p
weight_variant_place p n = ap place_weight (sym (place.rolls-Variant p n)) ∙ place_roll (Place-F.Place::Variant p n)

pub weight_load : (p : Place) → value_weight (value.Load p) ≡ 1 + place_weight p
weight_load p = ap value_weight (sym (value.rolls-Load p)) ∙ value_roll (Value-F.Load p)

pub weight_disc : (p : Place) → value_weight (value.Disc p) ≡ 1 + place_weight p
weight_disc p = ap value_weight (sym (value.rolls-Disc p)) ∙ value_roll (Value-F.Disc p)

pub weight_addr_of : (t : Ty) (p : Place) → value_weight (value.AddrOf t p) ≡ 1 + place_weight p
weight_addr_of t p = ap value_weight (sym (value.rolls-AddrOf t p)) ∙ value_roll (Value-F.AddrOf t p)

pub weight_cast : (i : IntType) (v : Value) → value_weight (value.Cast i v) ≡ 1 + value_weight v
weight_cast i v = ap value_weight (sym (value.rolls-Cast i v)) ∙ value_roll (Value-F.Cast i v)

pub weight_unary : (o : UnaryOp) (v : Value) → value_weight (value.Unary o v) ≡ 1 + value_weight v
weight_unary o v = ap value_weight (sym (value.rolls-Unary o v)) ∙ value_roll (Value-F.Unary o v)

pub weight_variant : (t : Ty) (n : Num) (v : Value) → value_weight (value.Variant t n v) ≡ 1 + value_weight v
weight_variant t n v = ap value_weight (sym (value.rolls-Variant t n v)) ∙ value_roll (Value-F.Value::Variant t n v)

pub weight_union : (t : Ty) (k : ℕ) (v : Value) → value_weight (value.Union t k v) ≡ 1 + value_weight v
weight_union t k v = ap value_weight (sym (value.rolls-Union t k v)) ∙ value_roll (Value-F.Union t k v)

pub weight_transmute : (t : Ty) (v : Value) → value_weight (value.Transmute t v) ≡ 1 + value_weight v
weight_transmute t v = ap value_weight (sym (value.rolls-Transmute t v)) ∙ value_roll (Value-F.Transmute t v)

pub weight_binary : (o : BinaryOp) (a b : Value) → value_weight (value.Binary o a b) ≡ 1 + (value_weight a + value_weight b)
weight_binary o a b = ap value_weight (sym (value.rolls-Binary o a b)) ∙ value_roll (Value-F.Binary o a b)

row_is : (vs : List Value) → row_sum (map value_weight vs) ≡ row_weight vs
row_is [] = refl
row_is (v ∷ vs) = ap (λ w. value_weight v + 1 + w) (row_is vs)

pub weight_tuple : (t : Ty) (vs : List Value) → value_weight (value.Tuple t vs) ≡ 1 + row_weight vs
weight_tuple t vs = ap value_weight (sym (value.rolls-Tuple t vs)) ∙ value_roll (Value-F.Tuple t vs) ∙ ap (λ w. 1 + w) (row_is vs)

-- a value of a row weighs less than the row
pub weight_in_row : (vs : List Value) (i : ℕ) (d : Value) → i < length vs → value_weight (get_or vs i d) < row_weight vs
weight_in_row [] i d lt = absurd (omega (arith))
weight_in_row (v ∷ vs) zero d lt = omega (arith)
weight_in_row (v ∷ vs) (suc i) d lt = let h = weight_in_row vs i d (omega (arith)) in omega (arith)
