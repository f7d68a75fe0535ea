-- No evaluation of a place or a value is refused with a data race.
use Rattle.mr_witness.proofs.Common.{◌≡◌, ℕ, ◌^◌, refl, sym, subst, List, [], ◌∷◌, Bool, true, false, ◌&&◌, Option, Some, None, Result, Ok, Err, ◌==◌, if◌then◌else◌, nat_lt, slice_get, meaningless, plainly, Ty, out-Ty, Pointer, Reason, Val, out-Val, number_of, Ask, Done, IllFormed, Undefined, ◌>>=◌, or_ill_formed, pointer_in, pointer_of_value, Check, ReadScript, loading}
use Rattle.std.proofs.Common.{◌*◌}
use Rattle.std.specs.Prelude.{ℤ, pos, negsuc, int_div, int_le, int_lt, int_rem, is_some, unsigned_abs, ◌+ℤ◌}
use Rattle.std.specs.Ordering.{int_eq}
use Rattle.mr_base.specs.Stops.{Stop}
use Rattle.mr_ast.specs.Integers.{bits_of, fits, least_of}
use Rattle.mr_ast.specs.declared.expr.BinaryOp.{BinaryOp}
use Rattle.mr_ast.specs.declared.expr.Place.{Place}
use Rattle.mr_ast.specs.declared.expr.UnaryOp.{UnaryOp}
use Rattle.mr_ast.specs.declared.expr.Value.{Value}
use Rattle.mr_ast.specs.declared.types.IntType.{IntType}
use Rattle.mr_ast.specs.declared.types.IntType.TheVariants.{I64}
use Rattle.mr_ast.specs.declared.types.Num.{Num}
use Rattle.mr_ast.specs.declared.types.Tree.{Tree}
use Rattle.mr_ast.specs.declared.types.Ty.TheOpen.{Ty-F}
use Rattle.mr_ast.specs.declared.types.Variant.{Variant}
use Rattle.mr_ast.proofs.ExprInduction.{AllValues, ExprCases, place_induction, value_induction}
use Rattle.mr_base.specs.declared.reason.Reason.TheVariants.{DivOverflow, IndexOutOfRange, InvalidDiscriminant, InvalidValue, OffsetOverflow, Overflow, ShiftAmount, TransmuteInvalid, ZeroDivisor}
use Rattle.mr_eval.specs.declared.arithmetic.ArithOp.{ArithOp}
use Rattle.mr_eval.specs.declared.arithmetic.ArithOp.TheVariants.{Add, AddUnchecked, And, Div, Mul, MulUnchecked, Or, Rem, Sub, SubUnchecked, Xor}
use Rattle.mr_eval.specs.declared.shifts.ShiftOp.{ShiftOp}
use Rattle.mr_eval.specs.declared.shifts.ShiftOp.TheVariants.{Shl, ShlUnchecked, Shr, ShrUnchecked}
use Rattle.mr_eval.specs.Arith.{arith_of, if_quotient_defined, unless_overflow}
use Rattle.mr_eval.specs.Numbers.{bits_for, value_of}
use Rattle.mr_eval.specs.Shift.{amount_of, is_amount, shift_of, shifted_left, shifted_right}
use Rattle.mr_layout.specs.EnumRules.{same_num}
use Rattle.mr_value.specs.declared.val.Val.TheOpen.{Val-F}
use Rattle.mr_value.specs.Decode.{decoded}
use Rattle.mr_value.specs.Encode.{encoding_of}
use Rattle.mr_value.specs.Numbers.{Bytes}
use Rattle.mr_value.specs.Shape.{has_shape}
use Rattle.mr_ast.proofs.TreeInduction.{AllCases, TreeCases, tree_induction}
use Rattle.mr_eval.specs.TypingTypes.{chained, type_of_place, type_of_value, variant_type}
use Rattle.mr_eval.specs.declared.kinds.Operator.{Operator}
use Rattle.mr_eval.specs.declared.kinds.Operator.TheVariants.{Arith, Comparing, Moving, Overflowing, Shifting, Wrapping}
use Rattle.mr_eval.specs.Evaluation.{Surround, as_variant, discriminant_at, discriminant_layer, element_at, elements_in, loaded, offset_in, place_script, stored, transmuted, union_layer, union_of, value_script, values_script}
use Rattle.mr_eval.specs.Moves.{at_address, behind, lower, moved, moved_to}
use Rattle.mr_eval.specs.Operators.{arith_like, binary_of, bits_in, cast_layer, cast_value, index_in, integer_like, integer_told, kind_of, like, moved_pointer, operated, or_reason, right_in, shift_like, unary_bool, unary_in, unary_of}
use Rattle.mr_eval.specs.Typed.{Targets, case_search, meant, numbered, or_undefined, referred, referring, searched, targets_of}
use Rattle.mr_eval.proofs.DiscSafe.{search_branch, search_invalid, search_known, searches}
use Rattle.mr_eval.proofs.EvaluationLaws.{script_addr_of, script_binary, script_cast, script_deref, script_disc, script_false, script_field, script_fn, script_global, script_index, script_int, script_load, script_local, script_raw, script_transmute, script_true, script_tuple, script_unary, script_union, script_variant, script_variant_place}
use Rattle.mr_ast.specs.declared.expr.Place.TheVariants as place
use Rattle.mr_ast.specs.declared.expr.UnaryOp.TheVariants as unary
use Rattle.mr_ast.specs.declared.expr.Value.TheVariants as value
use Rattle.mr_ast.specs.declared.types.Tree.TheVariants as tree
use Rattle.mr_witness.proofs.Calm.{Anything, CalmResult, Calms, IsCalm, calms_then}

-- a script of evaluation that is refused with no data race
abbrev pub Reads : {A : Type 0} → ReadScript A → Type 0
Reads m = Calms Anything m

reads_then : {A B : Type 0} (m : ReadScript A) (f : A → ReadScript B) → Reads m → ((a : A) → Reads (f a)) → Reads (m >>= f)
reads_then m f h k = calms_then Anything Anything m f h (λ a any. k a)

-- ---- parts

pub found_reads : {A : Type 0} (o : Option A) → Reads (or_ill_formed o)
found_reads None = tt
found_reads (Some x) = tt

found_then : {A B : Type 0} (o : Option A) (f : A → ReadScript B) → ((a : A) → Reads (f a)) → Reads (or_ill_formed o >>= f)
found_then None f k = tt
found_then (Some x) f k = k x

undefined_reads : {A : Type 0} (r : Stop) (o : Option A) → IsCalm r.reason → Reads (or_undefined r o)
undefined_reads r None h = h
undefined_reads r (Some x) h = tt

reason_reads : {A : Type 0} (r : Result A Reason) → CalmResult r → Reads (or_reason r)
reason_reads (Ok x) h = tt
reason_reads (Err r) h = h

moved_reads : (p : Pointer) (n : ℤ) → Reads (moved p n)
moved_reads p n = by (int_eq n (pos 0)) (int_le (pos 0) (pos p.addr +ℤ n) && int_lt (pos p.addr +ℤ n) (pos (2 ^ 64)))
  where
    by : (none within : Bool) → Reads {A = Pointer} (if none then Done p else (if within then Ask (Check (lower p n (pos p.addr +ℤ n)) (unsigned_abs n)) (λ _. Done (at_address p (unsigned_abs (pos p.addr +ℤ n)))) else Undefined (plainly OffsetOverflow)))
    by true within = tt
    by false true = λ x. tt
    by false false = refl

referring_reads : (ts : Targets) → Reads (referring ts)
referring_reads [] = tt
referring_reads (t ∷ ts) = λ x. referring_reads ts

meant_reads : (r : Stop) (t : Ty) (bytes : Bytes) → IsCalm r.reason → Reads (meant r t bytes)
meant_reads r t bytes h =
    reads_then (or_undefined r (decoded t bytes)) (referred t) (undefined_reads r (decoded t bytes) h)
    (λ v. reads_then (referring (targets_of t v)) (λ _. Done v) (referring_reads (targets_of t v)) (λ x. tt))

pub loading_reads : (t : Ty) (p : Pointer) → Reads (loading t p)
unfolding loading
loading_reads t p = λ bytes. meant_reads (meaningless t p) t bytes refl

pub stored_reads : (o : Option (Option Pointer)) → Reads (stored o)
stored_reads None = tt
stored_reads (Some None) = refl
stored_reads (Some (Some p)) = tt

element_reads : (p : Pointer) (i : ℕ) (e : ℕ × ℕ) → Reads (element_at p i e)
element_reads p i e = by (nat_lt i e.0)
  where
    by : (b : Bool) → Reads {A = Pointer} (if b then moved p (pos (i * e.1)) else Undefined (plainly IndexOutOfRange))
    by true = moved_reads p (pos (i * e.1))
    by false = refl

variant_reads : (t : Option Ty) (n : Num) (p : Pointer) → Reads (as_variant t n p)
variant_reads t n p = by (is_some (chained t (λ u. variant_type u n)))
  where
    by : (b : Bool) → Reads {A = Pointer} (if b then Done p else IllFormed)
    by true = tt
    by false = tt

loaded_reads : (t : Option Ty) (p : Pointer) → Reads (loaded t p)
loaded_reads None p = tt
loaded_reads (Some t) p = loading_reads t p

transmuted_reads : (to : Ty) (from : Option Ty) (v : Val) → Reads (transmuted to from v)
transmuted_reads to None v = tt
transmuted_reads to (Some from) v = by (has_shape from v)
  where
    by : (b : Bool) → Reads {A = Val} (if b then meant (plainly TransmuteInvalid) to (encoding_of from v) else IllFormed)
    by true = meant_reads (plainly TransmuteInvalid) to (encoding_of from v) refl
    by false = tt

-- ---- discriminants

abbrev SearchReads : Tree → Type 0
SearchReads t = (p : Pointer) → Reads (searched t p)

case_reads : (n : Num) (cases : List (Num × Tree)) (rest : Tree) (p : Pointer) → AllCases SearchReads cases → Reads (searched rest p) → Reads (case_search n (searches cases) (searched rest) p)
case_reads n [] rest p h k = k
case_reads n (c ∷ cases) rest p h k = by (case_reads n cases rest p h.1 k) (same_num c.0 n)
  where
    by : Reads (case_search n (searches cases) (searched rest) p) → (b : Bool) → Reads ((if b then searched c.1 else case_search n (searches cases) (searched rest)) p)
    by later true = h.0 p
    by later false = later

numbered_reads : (int : IntType) (p : Pointer) → Reads (numbered int p)
numbered_reads int p = λ bytes. reads_then (or_undefined (plainly InvalidDiscriminant) (number_of bytes)) _ (undefined_reads (plainly InvalidDiscriminant) (number_of bytes) refl) (λ n. tt)

search_reads : (t : Tree) (p : Pointer) → Reads (searched t p)
search_reads = tree_induction SearchReads (record {
  at_known = λ n p. subst Reads (sym (search_known n p)) tt;
  at_invalid = λ p. subst Reads (sym (search_invalid p)) refl;
  at_branch = λ at int cases rest all h p. subst Reads (sym (search_branch at int cases rest p)) (reads_then (numbered int (behind p at)) _ (numbered_reads int (behind p at)) (λ n. case_reads n cases rest p all (h p)));
})

layer_reads : (t : Ty-F Ty Variant) (p : Pointer) → Reads (discriminant_layer t p)
layer_reads (Ty-F.Enum size align disc variants tree) p = reads_then (searched tree p) _ (search_reads tree p) (λ n. tt)
layer_reads _ p = tt

discriminant_reads : (t : Option Ty) (p : Pointer) → Reads (discriminant_at t p)
discriminant_reads None p = tt
discriminant_reads (Some t) p = layer_reads (out-Ty t) p

-- ---- operators

quotient_calm : (t : IntType) (x y : ℤ) (n : ℕ) → CalmResult (if_quotient_defined t x y n)
quotient_calm t x y n = by (int_eq y (pos 0)) (int_eq x (least_of t) && int_eq y (negsuc 0))
  where
    by : (none over : Bool) → CalmResult {X = ℕ} (if none then Err ZeroDivisor else (if over then Err DivOverflow else Ok n))
    by true over = refl
    by false true = refl
    by false false = tt

overflow_calm : (t : IntType) (z : ℤ) → CalmResult (unless_overflow t z)
overflow_calm t z = by (fits t z)
  where
    by : (b : Bool) → CalmResult {X = ℕ} (if b then Ok (bits_for t z) else Err Overflow)
    by true = tt
    by false = refl

arith_calm : (op : ArithOp) (t : IntType) (a b : ℕ) → CalmResult (arith_of op t a b)
arith_calm Add t a b = tt
arith_calm Sub t a b = tt
arith_calm Mul t a b = tt
arith_calm Div t a b = quotient_calm t (value_of t a) (value_of t b) _
arith_calm Rem t a b = quotient_calm t (value_of t a) (value_of t b) _
arith_calm And t a b = tt
arith_calm Or t a b = tt
arith_calm Xor t a b = tt
arith_calm AddUnchecked t a b = overflow_calm t _
arith_calm SubUnchecked t a b = overflow_calm t _
arith_calm MulUnchecked t a b = overflow_calm t _

amount_calm : (b : Bool) (n : ℕ) → CalmResult {X = ℕ} (if b then Ok n else Err ShiftAmount)
amount_calm true n = tt
amount_calm false n = refl

shift_calm : (op : ShiftOp) (t : IntType) (a : ℕ) (by : IntType) (b : ℕ) → CalmResult (shift_of op t a by b)
shift_calm Shl t a by b = tt
shift_calm Shr t a by b = tt
shift_calm ShlUnchecked t a by b = amount_calm (is_amount t by b) _
shift_calm ShrUnchecked t a by b = amount_calm (is_amount t by b) _

like_reads : (a : Val-F Val) (bits : ℕ) → Reads (like a bits)
like_reads (Val-F.Int n) bits = tt
like_reads (Val-F.Bool b) bits = tt
like_reads _ bits = tt

operated_reads : (op : Operator) (left right : Option IntType) (a b : Val-F Val) → Reads (operated op left right a b)
operated_reads (Arith op) left right a b =
    found_then (integer_like a left) _ (λ int. found_then (bits_in a) _ (λ x. found_then (right_in int b) (λ y. arith_like op int x y a) (λ y. reads_then (or_reason (arith_of op int x y)) (like a) (reason_reads (arith_of op int x y) (arith_calm op int x y)) (λ bits. like_reads a bits))))
operated_reads (Overflowing op) left right a b = found_then (integer_like a left) _ (λ int. found_then (bits_in a) _ (λ x. found_then (right_in int b) _ (λ y. tt)))
operated_reads (Shifting op) left right a b =
    found_then (integer_like a left) _ (λ int. found_then (integer_like b right) _ (λ by. found_then (bits_in a) _ (λ x. found_then (bits_in b) (λ y. shift_like op int x by y) (λ y. reads_then (or_reason (shift_of op int x by y)) _ (reason_reads (shift_of op int x by y) (shift_calm op int x by y)) (λ bits. tt)))))
operated_reads (Comparing op) left right a b = found_then (integer_like a left) _ (λ int. found_then (bits_in a) _ (λ x. found_then (right_in int b) _ (λ y. tt)))
operated_reads Moving left right a b = found_then (pointer_in a) _ (λ p. found_then (right_in I64 b) _ (λ n. reads_then (moved p (value_of I64 n)) _ (moved_reads p (value_of I64 n)) (λ q. tt)))
operated_reads Wrapping left right a b = found_then (pointer_in a) _ (λ p. found_then (right_in I64 b) _ (λ n. tt))

bool_reads : (op : UnaryOp) (b : Bool) → Reads (unary_bool op b)
bool_reads unary.Neg b = tt
bool_reads unary.Not b = tt

unary_reads : (op : UnaryOp) (t : Option IntType) (v : Val-F Val) → Reads (unary_in op t v)
unary_reads op t (Val-F.Int n) = found_then (integer_like (Val-F.Int n) t) _ (λ int. tt)
unary_reads op t (Val-F.Bool b) = bool_reads op b
unary_reads op t _ = tt

-- ---- expressions

module _ (s : Surround) where
  abbrev PlaceReads : Place → Type 0
  PlaceReads p = Reads (place_script s p)

  abbrev ValueReads : Value → Type 0
  ValueReads v = Reads (value_script s v)

  all_read : (vs : List Value) → AllValues ValueReads vs → Reads (values_script s vs)
  all_read [] h = tt
  all_read (v ∷ vs) h = reads_then (value_script s v) _ h.0 (λ x. reads_then (values_script s vs) _ (all_read vs h.1) (λ xs. tt))

  read_cases : ExprCases PlaceReads ValueReads
  read_cases = record {
    at_local = λ x. subst Reads (sym (script_local s x)) (stored_reads (slice_get s.storage x.0));
    at_deref = λ v t h. subst Reads (sym (script_deref s v t)) (reads_then (value_script s v) pointer_of_value h (λ x. found_reads (pointer_in (out-Val x))));
    at_field = λ p k h. subst Reads (sym (script_field s p k)) (reads_then (place_script s p) _ h (λ a. found_then (offset_in (type_of_place s.locals p) k) _ (λ o. moved_reads a (pos o))));
    at_index = λ p i h k. subst Reads (sym (script_index s p i)) (reads_then (place_script s p) _ h (λ a. reads_then (value_script s i) _ k (λ v. found_then (index_in (out-Val v)) _ (λ n. found_then (elements_in (type_of_place s.locals p)) (element_at a n) (λ e. element_reads a n e)))));
    at_variant_place = λ p n h. subst Reads (sym (script_variant_place s p n)) (reads_then (place_script s p) _ h (λ a. variant_reads (type_of_place s.locals p) n a));
    at_int = λ i n. subst Reads (sym (script_int s i n)) tt;
    at_true = subst Reads (sym (script_true s)) tt;
    at_false = subst Reads (sym (script_false s)) tt;
    at_raw = λ n. subst Reads (sym (script_raw s n)) tt;
    at_fn = λ f. subst Reads (sym (script_fn s f)) (found_then (slice_get s.functions f.0) _ (λ p. tt));
    at_global = λ g n. subst Reads (sym (script_global s g n)) (found_then (slice_get s.globals g.0) _ (λ p. tt));
    at_tuple = λ t vs h. subst Reads (sym (script_tuple s t vs)) (reads_then (values_script s vs) _ (all_read vs h) (λ xs. tt));
    at_union = λ t n v h. subst Reads (sym (script_union s t n v)) (reads_then (value_script s v) _ h (λ x. found_then (union_layer (out-Ty t) n x) _ (λ bytes. tt)));
    at_variant = λ t n v h. subst Reads (sym (script_variant s t n v)) (reads_then (value_script s v) _ h (λ x. tt));
    at_load = λ p h. subst Reads (sym (script_load s p)) (reads_then (place_script s p) _ h (λ a. loaded_reads (type_of_place s.locals p) a));
    at_disc = λ p h. subst Reads (sym (script_disc s p)) (reads_then (place_script s p) _ h (λ a. discriminant_reads (type_of_place s.locals p) a));
    at_addr_of = λ t p h. subst Reads (sym (script_addr_of s t p)) (reads_then (place_script s p) _ h (λ a. tt));
    at_cast = λ i v h. subst Reads (sym (script_cast s i v)) (reads_then (value_script s v) _ h (λ x. found_then (integer_like (out-Val x) (integer_told (type_of_value s.locals v))) _ (λ from. found_then (bits_in (out-Val x)) _ (λ bits. tt))));
    at_transmute = λ t v h. subst Reads (sym (script_transmute s t v)) (reads_then (value_script s v) _ h (λ x. transmuted_reads t (type_of_value s.locals v) x));
    at_unary = λ o v h. subst Reads (sym (script_unary s o v)) (reads_then (value_script s v) _ h (λ x. unary_reads o (integer_told (type_of_value s.locals v)) (out-Val x)));
    at_binary = λ o a b h k. subst Reads (sym (script_binary s o a b)) (reads_then (value_script s a) _ h (λ x. reads_then (value_script s b) _ k (λ y. operated_reads (kind_of o) (integer_told (type_of_value s.locals a)) (integer_told (type_of_value s.locals b)) (out-Val x) (out-Val y))));
  }

  -- EACH PLACE AND VALUE
  pub place_reads : (p : Place) → Reads (place_script s p)
  place_reads = place_induction PlaceReads ValueReads read_cases

  pub value_reads : (v : Value) → Reads (value_script s v)
  value_reads = value_induction PlaceReads ValueReads read_cases

  pub values_read : (vs : List Value) → Reads (values_script s vs)
  values_read [] = tt
  values_read (v ∷ vs) = reads_then (value_script s v) _ (value_reads v) (λ x. reads_then (values_script s vs) _ (values_read vs) (λ xs. tt))
