-- Discriminants as an integer's bits, and the walk of a tree that finds one in the bytes of an enum.
use Rattle.std.specs.Prelude.{ℕ, ◌*◌, ◌-◌, ◌^◌, true, false, not, ◌&&◌, nat_lt, if◌then◌else◌, List, [], ◌∷◌, Option}
use Rattle.std.specs.Prelude.{Some, None, option_and_then}
use Rattle.mr_ast.specs.declared.types.IntType.{IntType}
use Rattle.mr_ast.specs.declared.types.Num.{Num}
use Rattle.mr_ast.specs.declared.types.Tree.{Tree}
use Rattle.mr_ast.specs.declared.types.Tree.TheOpen.{Tree-F}
use Rattle.mr_ast.specs.declared.types.Tree.TheFolds.{fold-Tree}
use Rattle.mr_ast.specs.Integers.{is_signed, int_size}
use Rattle.mr_layout.specs.EnumRules.{same_num}
use Rattle.mr_value.specs.Numbers.{Bytes, part, number_of}

-- the number that an integer's bits mean: of a signed type, two's complement
abbrev pub number_of_bits : IntType → ℕ → Num
number_of_bits int bits =
    if is_signed int && not (nat_lt bits (2 ^ (8 * int_size int - 1)))
    then record { neg = true; mag = 2 ^ (8 * int_size int) - bits } else record { neg = false; mag = bits }

-- the bits of a number that fits an integer type
abbrev pub bits_of_number : IntType → Num → ℕ
bits_of_number int n = if n.neg then 2 ^ (8 * int_size int) - n.mag else n.mag

-- how a discriminant is found in bytes
abbrev pub Walk : Type 0
Walk = Bytes → Option Num

-- the case with a number, and otherwise the rest
abbrev pub chosen_case : Num → List (Num × Walk) → Walk → Walk
chosen_case n [] rest = rest
chosen_case n (c ∷ cases) rest = if same_num c.0 n then c.1 else chosen_case n cases rest

-- one level of a tree: a leaf names a variant or nothing, and a branch reads the integer at its offset and goes on
abbrev pub walk_step : Tree-F Walk → Walk
walk_step (Tree-F.Known n) bytes = Some n
walk_step Tree-F.Invalid bytes = None
walk_step (Tree-F.Branch at int cases rest) bytes =
    option_and_then
    (λ bits. chosen_case (number_of_bits int bits) cases rest bytes) (number_of (part at (int_size int) bytes))

-- the discriminant that a tree finds in bytes
unfoldable pub walk : Tree → Walk
walk = fold-Tree Walk walk_step

-- the walk of the case with a number, and otherwise of the rest
abbrev pub walk_case : Num → List (Num × Tree) → Tree → Walk
walk_case n [] rest bytes = walk rest bytes
walk_case n (c ∷ cases) rest bytes = if same_num c.0 n then walk c.1 bytes else walk_case n cases rest bytes
