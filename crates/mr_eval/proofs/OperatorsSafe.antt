-- Operators on values whose types fit are never ill-formed, and what they give has its type's shape.
use Rattle.mr_eval.proofs.Common.{◌≡◌, ℕ, ◌*◌, ◌^◌, ◌<◌, [], ◌∷◌, Option, None, Some, Bool, true, false, refl, sym, ap, subst, ◌∙◌, not, ◌&&◌, ◌||◌, ◌==◌, is_some, neg_ℤ, if◌then◌else◌, option_map, same_Some, and_parts, bits_of, int_size, IntType, U8, U16, U32, U64, U128, I8, I16, I32, I64, I128, Ty, BinaryOp, UnaryOp, Pointer, ArithOp, ShiftOp, arith_of, overflowing_of, value_of, shift_of, Val, out-Val, Val-F, has_shape, lt_from, lt_test, has_bool, has_int, has_raw, has_tuple, shape_bool, shape_int, shape_raw, Done, ◌>>=◌, is_bool, is_int, is_raw, is_scalar_number, integer_in, integer_of, overflow_type, result_type, bool_is, integer_is, raw_is, same_type_equal, ReadScript, behind, moved, binary_of, cast_value, like, or_ill_formed, or_reason, unary_of, IsSafe, any_result}
use Rattle.std.specs.Cmp.Derive.{both_true}
use Rattle.mr_eval.specs.declared.comparisons.CmpOp.{CmpOp}
use Rattle.mr_eval.specs.Cast.{cast_of, invert_of, negate_of}
use Rattle.mr_eval.specs.Compare.{compare_of}
use Rattle.mr_typing.specs.SameTypes.{same_type}
use Rattle.mr_typing.specs.Operands.{fits_binary, fits_unary, is_integer}
use Rattle.mr_eval.specs.declared.kinds.Operator.{Operator}
use Rattle.mr_eval.specs.declared.kinds.OverflowOp.{OverflowOp}
use Rattle.mr_eval.specs.declared.kinds.Operator.TheVariants.{Arith, Comparing, Moving, Overflowing, Shifting, Wrapping}
use Rattle.mr_eval.specs.Operators.{cast_layer, integer_like, operated, right_in, unary_in, exact}
use Rattle.mr_ast.specs.declared.types.Ty.TheVariants as ty
use Rattle.mr_ast.specs.declared.expr.BinaryOp.TheVariants as binary
use Rattle.mr_ast.specs.declared.expr.UnaryOp.TheVariants as unary
use Rattle.mr_eval.specs.declared.arithmetic.ArithOp.TheVariants as arith_op
use Rattle.mr_eval.specs.declared.comparisons.CmpOp.TheVariants as cmp_op
use Rattle.mr_eval.specs.declared.shifts.ShiftOp.TheVariants as shift_op
use Rattle.mr_eval.proofs.Within.{arith_of-within, bits_for-lt, invert_of-lt, overflowing_of-within, shift_of-within}
use Rattle.mr_value.specs.declared.val.Val.TheVariants as val
use Rattle.mr_eval.specs.declared.kinds.OverflowOp.TheVariants as overflow_op
use Rattle.mr_eval.proofs.SafeLaws.{moved_safe, safe_result, safe_then}

-- ---- values of a type

abbrev pub Shaped : Ty → Val → Type 0
Shaped t v = has_shape t v ≡ true

-- an operand of an integer type
pub record IntLayer (t : Ty) (v : Val) : Type 0 where
  pub int : IntType
  pub bits : ℕ
  pub ty : t ≡ ty.Int int
  pub told : integer_of t ≡ Some int
  pub layer : out-Val v ≡ Val-F.Int bits
  pub within : bits < 2 ^ bits_of int

pub width : (i : IntType) → 8 * int_size i ≡ bits_of i
width U8 = refl
width U16 = refl
width U32 = refl
width U64 = refl
width U128 = refl
width I8 = refl
width I16 = refl
width I32 = refl
width I64 = refl
width I128 = refl

-- its bits are read as its integer
like_int : (t : Ty) (v : Val) (x : IntLayer t v) → integer_like (Val-F.Int x.bits) (integer_of t) ≡ Some x.int
like_int t v x =
    ap (integer_like (Val-F.Int x.bits)) x.told
    ∙ ap (λ (b : Bool). if b then Some x.int else None) (lt_test x.bits (2 ^ bits_of x.int) x.within)

some_there : {A : Type 0} (o : Option A) → is_some o ≡ true → (x : A) × (o ≡ Some x)
some_there None e = absurd (cc)
some_there (Some x) e = (x, refl)

pub int_layer : (t : Ty) (v : Val) (i : IntType) → integer_of t ≡ Some i → Shaped t v → IntLayer t v
int_layer t v i e h =
    let is = integer_is t i e in
    let made = shape_int i v (subst (λ (u : Ty). Shaped u v) is h) in
    record {
      int = i;
      bits = made.bits;
      ty = is;
      told = e;
      layer = ap out-Val made.is ∙ val.outs-Int made.bits;
      within = subst (λ (n : ℕ). made.bits < 2 ^ n) (width i) (lt_from made.bits (2 ^ (8 * int_size i)) made.fits);
    }

pub integer_layer : (t : Ty) (v : Val) → is_integer t ≡ true → Shaped t v → IntLayer t v
integer_layer t v e h = let i = some_there (integer_of t) e in int_layer t v i.0 i.1 h

pub int_result : (i : IntType) (n : ℕ) → n < 2 ^ bits_of i → Shaped (ty.Int i) (val.Int n)
int_result i n lt = has_int i n ∙ lt_test n (2 ^ (8 * int_size i)) (subst (λ (w : ℕ). n < 2 ^ w) (sym (width i)) lt)

pub bool_layer : (t : Ty) (v : Val) → is_bool t ≡ true → Shaped t v → (b : Bool) × (out-Val v ≡ Val-F.Bool b)
bool_layer t v e h = let made = shape_bool v (subst (λ (u : Ty). Shaped u v) (bool_is t e) h) in (made.truth, ap out-Val made.is ∙ val.outs-Bool made.truth)

pub raw_layer : (t : Ty) (v : Val) → is_raw t ≡ true → Shaped t v → (p : Pointer) × (out-Val v ≡ Val-F.Ptr p)
raw_layer t v e h = let made = shape_raw v (subst (λ (u : Ty). Shaped u v) (raw_is t e) h) in (made.pointer, ap out-Val made.is ∙ val.outs-Ptr made.pointer)

or_cases : {P : Type 0} (x y : Bool) → (x || y) ≡ true → (x ≡ true → P) → (y ≡ true → P) → P
or_cases true y e f g = f refl
or_cases false y e f g = g e

-- ---- scripts at known layers

found_then : {A B : Type 0} (P : B → Type 0) (o : Option A) (x : A) (f : A → ReadScript B) → o ≡ Some x → IsSafe P (f x) → IsSafe P (or_ill_formed o >>= f)
found_then P o x f e h = subst (λ (u : Option _). IsSafe P (or_ill_formed u >>= f)) (sym e) h

at_layers : (P : Val → Type 0) (k : Operator) (l r : Option IntType) (a b : Val) (x y : Val-F Val) → out-Val a ≡ x → out-Val b ≡ y
    → IsSafe P (operated k l r x y) → IsSafe P (operated k l r (out-Val a) (out-Val b))
at_layers P k l r a b x y ea eb h =
    subst (λ (u : Val-F Val). IsSafe P (operated k l r u (out-Val b))) (sym ea) (subst (λ (w : Val-F Val). IsSafe P (operated k l r x w)) (sym eb) h)

-- the bits of a right operand that are within the left one's width
right_int : (i : IntType) (n : ℕ) → n < 2 ^ bits_of i → right_in i (Val-F.Int n) ≡ Some n
right_int i n lt = ap (λ (b : Bool). if b then Some n else None) (lt_test n (2 ^ bits_of i) lt)

module _ (l r : Ty) (a b : Val) (ha : Shaped l a) (hb : Shaped r b) where
  -- the bits of the right operand, where the types are the same
  same_within : (i : IntType) (y : IntLayer r b) → integer_of l ≡ Some i → same_type l r ≡ true → y.bits < 2 ^ bits_of i
  same_within i y told same =
      subst (λ (j : IntType). y.bits < 2 ^ bits_of j) (same_Some y.int i (sym y.told ∙ subst (λ (u : Ty). integer_of u ≡ Some i) (same_type_equal l r same) told)) y.within

  arith_ints : (op : ArithOp) → is_integer l ≡ true → same_type l r ≡ true → IsSafe (Shaped l) (operated (Arith op) (integer_of l) (integer_of r) (out-Val a) (out-Val b))
  arith_ints op il same =
      let x = integer_layer l a il ha in
      let y = int_layer r b x.int (subst (λ (u : Ty). integer_of u ≡ Some x.int) (same_type_equal l r same) x.told) hb in
      let within = same_within x.int y x.told same in
      at_layers (Shaped l) (Arith op) (integer_of l) (integer_of r) a b (Val-F.Int x.bits) (Val-F.Int y.bits) x.layer y.layer
      (found_then (Shaped l) (integer_like (Val-F.Int x.bits) (integer_of l)) x.int _ (like_int l a x)
      (found_then (Shaped l) (right_in x.int (Val-F.Int y.bits)) y.bits _ (right_int x.int y.bits within)
      (safe_then (λ n. n < 2 ^ bits_of x.int) (Shaped l) (or_reason (arith_of op x.int x.bits y.bits)) (λ n. Done (val.Int n))
      (safe_result (λ n. n < 2 ^ bits_of x.int) (arith_of op x.int x.bits y.bits) (λ n e. arith_of-within op x.int x.bits y.bits n x.within within e))
      (λ n lt. subst (λ (u : Ty). Shaped u (val.Int n)) (sym x.ty) (int_result x.int n lt)))))

  arith_bools : (op : ArithOp) → is_bool l ≡ true → same_type l r ≡ true → IsSafe (Shaped l) (operated (Arith op) (integer_of l) (integer_of r) (out-Val a) (out-Val b))
  arith_bools op bl same =
      let x = bool_layer l a bl ha in
      let y = bool_layer r b (subst (λ (u : Ty). is_bool u ≡ true) (same_type_equal l r same) bl) hb in
      let m : ℕ = if x.0 then 1 else 0 in
      let n : ℕ = if y.0 then 1 else 0 in
      at_layers (Shaped l) (Arith op) (integer_of l) (integer_of r) a b (Val-F.Bool x.0) (Val-F.Bool y.0) x.1 y.1
      (safe_then any_result (Shaped l) (or_reason (arith_of op U8 m n)) (like (Val-F.Bool x.0)) (safe_result any_result (arith_of op U8 m n) (λ k e. tt))
      (λ k u. subst (λ (u : Ty). Shaped u (val.Bool (not (k == 0)))) (sym (bool_is l bl)) (has_bool (not (k == 0)))))

  overflowing_ints : (op : OverflowOp) (i : IntType) → integer_of l ≡ Some i → same_type l r ≡ true
      → IsSafe (Shaped (overflow_type i)) (operated (Overflowing op) (integer_of l) (integer_of r) (out-Val a) (out-Val b))
  overflowing_ints op i told same =
      let x = int_layer l a i told ha in
      let y = int_layer r b i (subst (λ (u : Ty). integer_of u ≡ Some i) (same_type_equal l r same) told) hb in
      let result = overflowing_of (exact op) i x.bits y.bits in
      let first = int_result i result.0 (overflowing_of-within (exact op) i x.bits y.bits) in
      at_layers (Shaped (overflow_type i)) (Overflowing op) (integer_of l) (integer_of r) a b (Val-F.Int x.bits) (Val-F.Int y.bits) x.layer y.layer
      (found_then (Shaped (overflow_type i)) (integer_like (Val-F.Int x.bits) (integer_of l)) i _ (like_int l a x ∙ ap (λ (j : IntType). Some j) (same_Some x.int i (sym x.told ∙ told)))
      (found_then (Shaped (overflow_type i)) (right_in i (Val-F.Int y.bits)) y.bits _ (right_int i y.bits (same_within i y told same))
      (has_tuple (2 * int_size i) (int_size i) ((0, ty.Int i) ∷ (int_size i, ty.Bool) ∷ []) (val.Int result.0 ∷ val.Bool result.1 ∷ []) ∙ both_true first (both_true (has_bool result.1) refl))))

  shifting_ints : (op : ShiftOp) → is_integer l ≡ true → is_integer r ≡ true → IsSafe (Shaped l) (operated (Shifting op) (integer_of l) (integer_of r) (out-Val a) (out-Val b))
  shifting_ints op il ir =
      let x = integer_layer l a il ha in
      let y = integer_layer r b ir hb in
      at_layers (Shaped l) (Shifting op) (integer_of l) (integer_of r) a b (Val-F.Int x.bits) (Val-F.Int y.bits) x.layer y.layer
      (found_then (Shaped l) (integer_like (Val-F.Int x.bits) (integer_of l)) x.int _ (like_int l a x)
      (found_then (Shaped l) (integer_like (Val-F.Int y.bits) (integer_of r)) y.int _ (like_int r b y)
      (safe_then (λ n. n < 2 ^ bits_of x.int) (Shaped l) (or_reason (shift_of op x.int x.bits y.int y.bits)) (λ n. Done (val.Int n))
      (safe_result (λ n. n < 2 ^ bits_of x.int) (shift_of op x.int x.bits y.int y.bits) (λ n e. shift_of-within op x.int x.bits y.int y.bits n e))
      (λ n lt. subst (λ (u : Ty). Shaped u (val.Int n)) (sym x.ty) (int_result x.int n lt)))))

  compared_ints : (op : CmpOp) → is_integer l ≡ true → same_type l r ≡ true → IsSafe (Shaped ty.Bool) (operated (Comparing op) (integer_of l) (integer_of r) (out-Val a) (out-Val b))
  compared_ints op il same =
      let x = integer_layer l a il ha in
      let y = int_layer r b x.int (subst (λ (u : Ty). integer_of u ≡ Some x.int) (same_type_equal l r same) x.told) hb in
      at_layers (Shaped ty.Bool) (Comparing op) (integer_of l) (integer_of r) a b (Val-F.Int x.bits) (Val-F.Int y.bits) x.layer y.layer
      (found_then (Shaped ty.Bool) (integer_like (Val-F.Int x.bits) (integer_of l)) x.int _ (like_int l a x)
      (found_then (Shaped ty.Bool) (right_in x.int (Val-F.Int y.bits)) y.bits _ (right_int x.int y.bits (same_within x.int y x.told same)) (has_bool (compare_of op x.int x.bits y.bits))))

  compared_bools : (op : CmpOp) → is_bool l ≡ true → same_type l r ≡ true → IsSafe (Shaped ty.Bool) (operated (Comparing op) (integer_of l) (integer_of r) (out-Val a) (out-Val b))
  compared_bools op bl same =
      let x = bool_layer l a bl ha in
      let y = bool_layer r b (subst (λ (u : Ty). is_bool u ≡ true) (same_type_equal l r same) bl) hb in
      let m : ℕ = if x.0 then 1 else 0 in
      let n : ℕ = if y.0 then 1 else 0 in
      at_layers (Shaped ty.Bool) (Comparing op) (integer_of l) (integer_of r) a b (Val-F.Bool x.0) (Val-F.Bool y.0) x.1 y.1
      (has_bool (compare_of op U8 m n))

  compared_raws : (op : CmpOp) → is_raw l ≡ true → same_type l r ≡ true → IsSafe (Shaped ty.Bool) (operated (Comparing op) (integer_of l) (integer_of r) (out-Val a) (out-Val b))
  compared_raws op rl same =
      let x = raw_layer l a rl ha in
      let y = raw_layer r b (subst (λ (u : Ty). is_raw u ≡ true) (same_type_equal l r same) rl) hb in
      at_layers (Shaped ty.Bool) (Comparing op) (integer_of l) (integer_of r) a b (Val-F.Ptr x.0) (Val-F.Ptr y.0) x.1 y.1
      (has_bool (compare_of op U64 x.0.addr y.0.addr))

  raw_result : (p : Pointer) → is_raw l ≡ true → Shaped l (val.Ptr p)
  raw_result p rl = subst (λ (u : Ty). Shaped u (val.Ptr p)) (sym (raw_is l rl)) (has_raw p)

  -- an i64 has bits
  i64_told : is_int I64 r ≡ true → integer_of r ≡ Some I64
  i64_told e = subst (λ (u : Ty). integer_of u ≡ Some I64) (sym (same_type_equal r (ty.Int I64) e)) (ap integer_in (ty.outs-Int I64))

  moved_by : is_int I64 r ≡ true → IntLayer r b
  moved_by e = int_layer r b I64 (i64_told e) hb

  i64_within : (e : is_int I64 r ≡ true) → (moved_by e).bits < 2 ^ bits_of I64
  i64_within e = subst (λ (j : IntType). (moved_by e).bits < 2 ^ bits_of j) (same_Some (moved_by e).int I64 (sym (moved_by e).told ∙ i64_told e)) (moved_by e).within

  moved_raw : is_raw l ≡ true → is_int I64 r ≡ true → IsSafe (Shaped l) (operated Moving (integer_of l) (integer_of r) (out-Val a) (out-Val b))
  moved_raw rl e =
      let x = raw_layer l a rl ha in
      let y = moved_by e in
      at_layers (Shaped l) Moving (integer_of l) (integer_of r) a b (Val-F.Ptr x.0) (Val-F.Int y.bits) x.1 y.layer
      (found_then (Shaped l) (right_in I64 (Val-F.Int y.bits)) y.bits _ (right_int I64 y.bits (i64_within e))
      (safe_then any_result (Shaped l) (moved x.0 (value_of I64 y.bits)) (λ q. Done (val.Ptr q)) (moved_safe x.0 (value_of I64 y.bits)) (λ q u. raw_result q rl)))

  wrapped_raw : is_raw l ≡ true → is_int I64 r ≡ true → IsSafe (Shaped l) (operated Wrapping (integer_of l) (integer_of r) (out-Val a) (out-Val b))
  wrapped_raw rl e =
      let x = raw_layer l a rl ha in
      let y = moved_by e in
      at_layers (Shaped l) Wrapping (integer_of l) (integer_of r) a b (Val-F.Ptr x.0) (Val-F.Int y.bits) x.1 y.layer
      (found_then (Shaped l) (right_in I64 (Val-F.Int y.bits)) y.bits _ (right_int I64 y.bits (i64_within e)) (raw_result (behind x.0 y.bits) rl))

  -- ---- by the operator

  same_result : (op : Operator) (t : Ty) → Some l ≡ Some t → IsSafe (Shaped l) (operated op (integer_of l) (integer_of r) (out-Val a) (out-Val b)) → IsSafe (Shaped t) (operated op (integer_of l) (integer_of r) (out-Val a) (out-Val b))
  same_result op t e h = subst (λ (u : Ty). IsSafe (Shaped u) (operated op (integer_of l) (integer_of r) (out-Val a) (out-Val b))) (same_Some l t e) h

  by_integers : (op : ArithOp) (t : Ty) → Some l ≡ Some t → (is_integer l && same_type l r) ≡ true → IsSafe (Shaped t) (operated (Arith op) (integer_of l) (integer_of r) (out-Val a) (out-Val b))
  by_integers op t e fits = let p = and_parts (is_integer l) (same_type l r) fits in same_result (Arith op) t e (arith_ints op p.0 p.1)

  by_bits : (op : ArithOp) (t : Ty) → Some l ≡ Some t → (is_scalar_number l && same_type l r) ≡ true → IsSafe (Shaped t) (operated (Arith op) (integer_of l) (integer_of r) (out-Val a) (out-Val b))
  by_bits op t e fits =
      let p = and_parts (is_scalar_number l) (same_type l r) fits in
      same_result (Arith op) t e (or_cases (is_integer l) (is_bool l) p.0 (λ i. arith_ints op i p.1) (λ i. arith_bools op i p.1))

  overflow_given : (op : OverflowOp) (o : Option IntType) (t : Ty) → integer_of l ≡ o → option_map overflow_type o ≡ Some t → same_type l r ≡ true
      → IsSafe (Shaped t) (operated (Overflowing op) (integer_of l) (integer_of r) (out-Val a) (out-Val b))
  overflow_given op None t told e same = absurd (cc)
  overflow_given op (Some i) t told e same =
      subst (λ (u : Ty). IsSafe (Shaped u) (operated (Overflowing op) (integer_of l) (integer_of r) (out-Val a) (out-Val b))) (same_Some (overflow_type i) t e) (overflowing_ints op i told same)

  by_overflow : (op : OverflowOp) (t : Ty) → option_map overflow_type (integer_of l) ≡ Some t → (is_integer l && same_type l r) ≡ true
      → IsSafe (Shaped t) (operated (Overflowing op) (integer_of l) (integer_of r) (out-Val a) (out-Val b))
  by_overflow op t e fits = overflow_given op (integer_of l) t refl e (and_parts (is_integer l) (same_type l r) fits).1

  by_shift : (op : ShiftOp) (t : Ty) → Some l ≡ Some t → (is_integer l && is_integer r) ≡ true → IsSafe (Shaped t) (operated (Shifting op) (integer_of l) (integer_of r) (out-Val a) (out-Val b))
  by_shift op t e fits = let p = and_parts (is_integer l) (is_integer r) fits in same_result (Shifting op) t e (shifting_ints op p.0 p.1)

  by_comparison : (op : CmpOp) (t : Ty) → Some ty.Bool ≡ Some t → ((is_scalar_number l || is_raw l) && same_type l r) ≡ true
      → IsSafe (Shaped t) (operated (Comparing op) (integer_of l) (integer_of r) (out-Val a) (out-Val b))
  by_comparison op t e fits =
      let p = and_parts (is_scalar_number l || is_raw l) (same_type l r) fits in
      subst (λ (u : Ty). IsSafe (Shaped u) (operated (Comparing op) (integer_of l) (integer_of r) (out-Val a) (out-Val b))) (same_Some ty.Bool t e)
      (or_cases (is_scalar_number l) (is_raw l) p.0 (λ s. or_cases (is_integer l) (is_bool l) s (λ i. compared_ints op i p.1) (λ i. compared_bools op i p.1)) (λ i. compared_raws op i p.1))

  pub binary_safe : (op : BinaryOp) (t : Ty) → fits_binary op l r ≡ true → result_type op l ≡ Some t → IsSafe (Shaped t) (binary_of op (Some l) (Some r) a b)
  binary_safe binary.Add t fits e = by_integers arith_op.Add t e fits
  binary_safe binary.Sub t fits e = by_integers arith_op.Sub t e fits
  binary_safe binary.Mul t fits e = by_integers arith_op.Mul t e fits
  binary_safe binary.Div t fits e = by_integers arith_op.Div t e fits
  binary_safe binary.Rem t fits e = by_integers arith_op.Rem t e fits
  binary_safe binary.And t fits e = by_bits arith_op.And t e fits
  binary_safe binary.Or t fits e = by_bits arith_op.Or t e fits
  binary_safe binary.Xor t fits e = by_bits arith_op.Xor t e fits
  binary_safe binary.AddUnchecked t fits e = by_integers arith_op.AddUnchecked t e fits
  binary_safe binary.SubUnchecked t fits e = by_integers arith_op.SubUnchecked t e fits
  binary_safe binary.MulUnchecked t fits e = by_integers arith_op.MulUnchecked t e fits
  binary_safe binary.AddOverflow t fits e = by_overflow overflow_op.Add t e fits
  binary_safe binary.SubOverflow t fits e = by_overflow overflow_op.Sub t e fits
  binary_safe binary.MulOverflow t fits e = by_overflow overflow_op.Mul t e fits
  binary_safe binary.Shl t fits e = by_shift shift_op.Shl t e fits
  binary_safe binary.Shr t fits e = by_shift shift_op.Shr t e fits
  binary_safe binary.ShlUnchecked t fits e = by_shift shift_op.ShlUnchecked t e fits
  binary_safe binary.ShrUnchecked t fits e = by_shift shift_op.ShrUnchecked t e fits
  binary_safe binary.Eq t fits e = by_comparison cmp_op.Eq t e fits
  binary_safe binary.Ne t fits e = by_comparison cmp_op.Ne t e fits
  binary_safe binary.Lt t fits e = by_comparison cmp_op.Lt t e fits
  binary_safe binary.Le t fits e = by_comparison cmp_op.Le t e fits
  binary_safe binary.Gt t fits e = by_comparison cmp_op.Gt t e fits
  binary_safe binary.Ge t fits e = by_comparison cmp_op.Ge t e fits
  binary_safe binary.Offset t fits e = let p = and_parts (is_raw l) (is_int I64 r) fits in same_result Moving t e (moved_raw p.0 p.1)
  binary_safe binary.WrappingOffset t fits e = let p = and_parts (is_raw l) (is_int I64 r) fits in same_result Wrapping t e (wrapped_raw p.0 p.1)

-- ---- one operand

module _ (t : Ty) (v : Val) (h : Shaped t v) where
  unary_ints : (op : UnaryOp) → is_integer t ≡ true → IsSafe (Shaped t) (unary_in op (integer_of t) (out-Val v))
  unary_ints op it =
      let x = integer_layer t v it h in
      subst (λ (u : Val-F Val). IsSafe (Shaped t) (unary_in op (integer_of t) u)) (sym x.layer) (by_operator op x)
    where
      by_operator : (o : UnaryOp) (x : IntLayer t v) → IsSafe (Shaped t) (unary_in o (integer_of t) (Val-F.Int x.bits))
      by_operator unary.Neg x =
          found_then (Shaped t) (integer_like (Val-F.Int x.bits) (integer_of t)) x.int _ (like_int t v x) (subst (λ (u : Ty). Shaped u (val.Int (negate_of x.int x.bits))) (sym x.ty) (int_result x.int (negate_of x.int x.bits) (bits_for-lt x.int (neg_ℤ (value_of x.int x.bits)))))
      by_operator unary.Not x =
          found_then (Shaped t) (integer_like (Val-F.Int x.bits) (integer_of t)) x.int _ (like_int t v x) (subst (λ (u : Ty). Shaped u (val.Int (invert_of x.int x.bits))) (sym x.ty) (int_result x.int (invert_of x.int x.bits) (invert_of-lt x.int x.bits x.within)))

  not_bool : is_bool t ≡ true → IsSafe (Shaped t) (unary_in unary.Not (integer_of t) (out-Val v))
  not_bool bt =
      let x = bool_layer t v bt h in
      subst (λ (u : Val-F Val). IsSafe (Shaped t) (unary_in unary.Not (integer_of t) u)) (sym x.1) (subst (λ (u : Ty). Shaped u (val.Bool (not x.0))) (sym (bool_is t bt)) (has_bool (not x.0)))

  pub unary_safe : (op : UnaryOp) → fits_unary op t ≡ true → IsSafe (Shaped t) (unary_of op (Some t) v)
  unary_safe unary.Neg fits = unary_ints unary.Neg fits
  unary_safe unary.Not fits = or_cases (is_integer t) (is_bool t) fits (unary_ints unary.Not) not_bool

  pub cast_safe : (to : IntType) → is_scalar_number t ≡ true → IsSafe (Shaped (ty.Int to)) (cast_value to (Some t) v)
  cast_safe to fits = or_cases (is_integer t) (is_bool t) fits of_int of_bool
    where
      cast_result : (from : IntType) (bits : ℕ) → Shaped (ty.Int to) (val.Int (cast_of from to bits))
      cast_result from bits = int_result to (cast_of from to bits) (bits_for-lt to (value_of from bits))

      of_int : is_integer t ≡ true → IsSafe (Shaped (ty.Int to)) (cast_value to (Some t) v)
      of_int it =
          let x = integer_layer t v it h in
          subst (λ (u : Val-F Val). IsSafe (Shaped (ty.Int to)) (cast_layer to (integer_of t) u)) (sym x.layer)
          (found_then (Shaped (ty.Int to)) (integer_like (Val-F.Int x.bits) (integer_of t)) x.int _ (like_int t v x) (cast_result x.int x.bits))

      of_bool : is_bool t ≡ true → IsSafe (Shaped (ty.Int to)) (cast_value to (Some t) v)
      of_bool bt =
          let x = bool_layer t v bt h in
          subst (λ (u : Val-F Val). IsSafe (Shaped (ty.Int to)) (cast_layer to (integer_of t) u)) (sym x.1) (cast_result U8 (if x.0 then 1 else 0))
