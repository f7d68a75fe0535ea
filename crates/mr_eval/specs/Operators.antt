-- What the operators give on values, by the types of their operands. (MiniRust, lang: operators.)
use Rattle.std.specs.Prelude.{ℕ, ◌^◌, ◌==◌, nat_lt, Bool, not, if◌then◌else◌, [], ◌∷◌, Option, None, Some, Result, Ok}
use Rattle.std.specs.Prelude.{Err, ℤ}
use Rattle.std.specs.Option.{option_and_then}
use Rattle.mr_ast.specs.Integers.{bits_of}
use Rattle.mr_ast.specs.declared.types.IntType.{IntType}
use Rattle.mr_ast.specs.declared.types.IntType.TheVariants.{U8, U64, I64}
use Rattle.mr_ast.specs.declared.types.Ty.{Ty}
use Rattle.mr_ast.specs.declared.expr.BinaryOp.{BinaryOp}
use Rattle.mr_ast.specs.declared.expr.BinaryOp.TheVariants as binary
use Rattle.mr_ast.specs.declared.expr.UnaryOp.{UnaryOp}
use Rattle.mr_ast.specs.declared.expr.UnaryOp.TheVariants as unary
use Rattle.mr_base.specs.declared.byte.Pointer.{Pointer}
use Rattle.mr_base.specs.declared.reason.Reason.{Reason}
use Rattle.mr_eval.specs.declared.arithmetic.ArithOp.{ArithOp}
use Rattle.mr_eval.specs.declared.arithmetic.ArithOp.TheVariants as arith
use Rattle.mr_eval.specs.declared.comparisons.CmpOp.TheVariants as cmp
use Rattle.mr_eval.specs.declared.shifts.ShiftOp.{ShiftOp}
use Rattle.mr_eval.specs.declared.shifts.ShiftOp.TheVariants as shift
use Rattle.mr_eval.specs.Arith.{arith_of, overflowing_of}
use Rattle.mr_eval.specs.Cast.{cast_of, invert_of, negate_of}
use Rattle.mr_eval.specs.Compare.{compare_of}
use Rattle.mr_eval.specs.Numbers.{value_of}
use Rattle.mr_eval.specs.Shift.{shift_of}
use Rattle.mr_value.specs.declared.val.Val.{Val, out-Val}
use Rattle.mr_value.specs.declared.val.Val.TheOpen.{Val-F}
use Rattle.mr_value.specs.declared.val.Val.TheVariants as val
use Rattle.mr_base.specs.Stops.{plainly}
use Rattle.mr_base.specs.Script.{Done, Undefined, IllFormed, ◌>>=◌}
use Rattle.mr_typing.specs.SameTypes.{same_int}
use Rattle.mr_typing.specs.Types.{integer_of}
use Rattle.mr_eval.specs.declared.kinds.OverflowOp.{OverflowOp}
use Rattle.mr_eval.specs.declared.kinds.OverflowOp.TheVariants as overflow
use Rattle.mr_eval.specs.declared.kinds.Operator.{Operator}
use Rattle.mr_eval.specs.declared.kinds.Operator.TheVariants.{Arith, Overflowing, Shifting, Comparing, Moving, Wrapping}
use Rattle.mr_eval.specs.Reads.{ReadScript}
use Rattle.mr_eval.specs.Moves.{behind, moved}

-- ---- the parts of operands

-- what is there, and no rule where it isn't
abbrev pub or_ill_formed : {A : Type 0} → Option A → ReadScript A
or_ill_formed None = IllFormed
or_ill_formed (Some x) = Done x

-- the bits of an integer, 0 or 1 of a bool, the address of a pointer
abbrev pub bits_in : Val-F Val → Option ℕ
bits_in (Val-F.Int n) = Some n
bits_in (Val-F.Bool b) = Some (if b then 1 else 0)
bits_in (Val-F.Ptr p) = Some p.addr
bits_in _ = None

-- the position that an index tells: an integer of 64 bits
abbrev pub index_in : Val-F Val → Option ℕ
index_in (Val-F.Int n) = if nat_lt n (2 ^ 64) then Some n else None
index_in _ = None

-- the index that a value is
abbrev pub index_of_value : Val → ReadScript ℕ
index_of_value v = or_ill_formed (index_in (out-Val v))

-- the pointer that the outermost layer of a value is
abbrev pub pointer_in : Val-F Val → Option Pointer
pointer_in (Val-F.Ptr p) = Some p
pointer_in _ = None

-- the pointer that a value is
abbrev pub pointer_of_value : Val → ReadScript Pointer
pointer_of_value v = or_ill_formed (pointer_in (out-Val v))

-- the integer type of an operand, where it has one
abbrev pub integer_told : Option Ty → Option IntType
integer_told None = None
integer_told (Some t) = integer_of t

-- how an operand's bits are read: as its integer, of which they are bits; a bool as u8, an address as u64
abbrev pub integer_like : Val-F Val → Option IntType → Option IntType
integer_like (Val-F.Int n) told = option_and_then (λ i. if nat_lt n (2 ^ bits_of i) then Some i else None) told
integer_like (Val-F.Bool b) told = Some U8
integer_like (Val-F.Ptr p) told = Some U64
integer_like _ told = None

-- ---- kinds of operators

-- the operator of which this one tells whether its result wrapped
abbrev pub exact : OverflowOp → ArithOp
exact overflow.Add = arith.Add
exact overflow.Sub = arith.Sub
exact overflow.Mul = arith.Mul

-- what an operator does
abbrev pub kind_of : BinaryOp → Operator
kind_of binary.Add = Arith arith.Add
kind_of binary.Sub = Arith arith.Sub
kind_of binary.Mul = Arith arith.Mul
kind_of binary.Div = Arith arith.Div
kind_of binary.Rem = Arith arith.Rem
kind_of binary.And = Arith arith.And
kind_of binary.Or = Arith arith.Or
kind_of binary.Xor = Arith arith.Xor
kind_of binary.AddUnchecked = Arith arith.AddUnchecked
kind_of binary.SubUnchecked = Arith arith.SubUnchecked
kind_of binary.MulUnchecked = Arith arith.MulUnchecked
kind_of binary.AddOverflow = Overflowing overflow.Add
kind_of binary.SubOverflow = Overflowing overflow.Sub
kind_of binary.MulOverflow = Overflowing overflow.Mul
kind_of binary.Shl = Shifting shift.Shl
kind_of binary.Shr = Shifting shift.Shr
kind_of binary.ShlUnchecked = Shifting shift.ShlUnchecked
kind_of binary.ShrUnchecked = Shifting shift.ShrUnchecked
kind_of binary.Eq = Comparing cmp.Eq
kind_of binary.Ne = Comparing cmp.Ne
kind_of binary.Lt = Comparing cmp.Lt
kind_of binary.Le = Comparing cmp.Le
kind_of binary.Gt = Comparing cmp.Gt
kind_of binary.Ge = Comparing cmp.Ge
kind_of binary.Offset = Moving
kind_of binary.WrappingOffset = Wrapping

-- ---- results

-- the result, or the program is undefined for the reason
abbrev pub or_reason : {A : Type 0} → Result A Reason → ReadScript A
or_reason (Ok x) = Done x
or_reason (Err r) = Undefined (plainly r)

-- bits as a value of the operand's kind: bools are and-ed, or-ed and xor-ed as 0 and 1
abbrev pub like : Val-F Val → ℕ → ReadScript Val
like (Val-F.Int n) bits = Done (val.Int bits)
like (Val-F.Bool b) bits = Done (val.Bool (not (bits == 0)))
like _ bits = IllFormed

-- the wrapped result, and whether it wrapped
abbrev pub with_flag : ℕ × Bool → Val
with_flag r = val.Tuple (val.Int r.0 ∷ val.Bool r.1 ∷ [])

-- the bits of a right operand, where they are bits of the left one's integer: a pointer stands beside a pointer
abbrev pub right_in : IntType → Val-F Val → Option ℕ
right_in int (Val-F.Int n) = if nat_lt n (2 ^ bits_of int) then Some n else None
right_in int (Val-F.Bool b) = Some (if b then 1 else 0)
right_in int (Val-F.Ptr p) = if same_int int U64 then Some p.addr else None
right_in int _ = None

-- what an arithmetic operator gives on bits, beside a left operand
abbrev pub arith_like : ArithOp → IntType → ℕ → ℕ → Val-F Val → ReadScript Val
arith_like op int x y a = or_reason (arith_of op int x y) >>= λ bits. like a bits

-- the same of a shift
abbrev pub shift_like : ShiftOp → IntType → ℕ → IntType → ℕ → ReadScript Val
shift_like op int x by y = or_reason (shift_of op int x by y) >>= λ bits. Done (val.Int bits)

-- a pointer moved in bounds, as a value
abbrev pub moved_pointer : Pointer → ℤ → ReadScript Val
moved_pointer p n = moved p n >>= λ q. Done (val.Ptr q)

-- what an operator gives, by its operands' types; a pointer moves by the bytes that the number's bits say, modulo 2^64
abbrev pub operated : Operator → Option IntType → Option IntType → Val-F Val → Val-F Val → ReadScript Val
operated (Arith op) left right a b = do
  int ← or_ill_formed (integer_like a left)
  x ← or_ill_formed (bits_in a)
  y ← or_ill_formed (right_in int b)
  arith_like op int x y a
operated (Overflowing op) left right a b = do
  int ← or_ill_formed (integer_like a left)
  x ← or_ill_formed (bits_in a)
  y ← or_ill_formed (right_in int b)
  Done (with_flag (overflowing_of (exact op) int x y))
operated (Shifting op) left right a b = do
  int ← or_ill_formed (integer_like a left)
  by ← or_ill_formed (integer_like b right)
  x ← or_ill_formed (bits_in a)
  y ← or_ill_formed (bits_in b)
  shift_like op int x by y
operated (Comparing op) left right a b = do
  int ← or_ill_formed (integer_like a left)
  x ← or_ill_formed (bits_in a)
  y ← or_ill_formed (right_in int b)
  Done (val.Bool (compare_of op int x y))
operated Moving left right a b =
    or_ill_formed (pointer_in a) >>= λ p. or_ill_formed (right_in I64 b) >>= λ n. moved_pointer p (value_of I64 n)
operated Wrapping left right a b =
    or_ill_formed (pointer_in a) >>= λ p. or_ill_formed (right_in I64 b) >>= λ n. Done (val.Ptr (behind p n))

-- what an operator comes to with two operands and the types that are known of them
abbrev pub binary_of : BinaryOp → Option Ty → Option Ty → Val → Val → ReadScript Val
binary_of op left right a b = operated (kind_of op) (integer_told left) (integer_told right) (out-Val a) (out-Val b)

-- ---- operators with one operand

-- what an operator makes of the bits of an integer
abbrev pub unary_bits : UnaryOp → IntType → ℕ → ℕ
unary_bits unary.Neg int n = negate_of int n
unary_bits unary.Not int n = invert_of int n

-- what an operator makes of a bool
abbrev pub unary_bool : UnaryOp → Bool → ReadScript Val
unary_bool unary.Neg b = IllFormed
unary_bool unary.Not b = Done (val.Bool (not b))

-- what an operator makes of the outermost layer of a value
abbrev pub unary_in : UnaryOp → Option IntType → Val-F Val → ReadScript Val
unary_in op t (Val-F.Int n) =
    or_ill_formed (integer_like (Val-F.Int n) t) >>= λ int. Done (val.Int (unary_bits op int n))
unary_in op t (Val-F.Bool b) = unary_bool op b
unary_in op t _ = IllFormed

-- what an operator comes to with one operand and the type that is known of it
abbrev pub unary_of : UnaryOp → Option Ty → Val → ReadScript Val
unary_of op t v = unary_in op (integer_told t) (out-Val v)

-- the same number in another integer type, a bool being 0 or 1
abbrev pub cast_layer : IntType → Option IntType → Val-F Val → ReadScript Val
cast_layer to t v = do
  from ← or_ill_formed (integer_like v t)
  bits ← or_ill_formed (bits_in v)
  Done (val.Int (cast_of from to bits))

-- the value as an integer of another type
abbrev pub cast_value : IntType → Option Ty → Val → ReadScript Val
cast_value to t v = cast_layer to (integer_told t) (out-Val v)
