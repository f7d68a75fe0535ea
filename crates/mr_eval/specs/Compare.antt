-- The comparisons: of the numbers that the bits mean.
use Rattle.std.specs.Prelude.{ℕ, Bool, not, ℤ, int_lt, int_le}
use Rattle.std.specs.Ordering.{int_eq}
use Rattle.mr_ast.specs.declared.types.IntType.{IntType}
use Rattle.mr_eval.specs.declared.comparisons.CmpOp.{CmpOp}
use Rattle.mr_eval.specs.declared.comparisons.CmpOp.TheVariants.{Eq, Ne, Lt, Le, Gt, Ge}
use Rattle.mr_eval.specs.Numbers.{value_of}

-- what a comparison of two numbers answers
abbrev pub compares : CmpOp → ℤ → ℤ → Bool
compares Eq x y = int_eq x y
compares Ne x y = not (int_eq x y)
compares Lt x y = int_lt x y
compares Le x y = int_le x y
compares Gt x y = int_lt y x
compares Ge x y = int_le y x

-- what a comparison of two numbers answers
abbrev pub compare_of : CmpOp → IntType → ℕ → ℕ → Bool
compare_of op t a b = compares op (value_of t a) (value_of t b)
