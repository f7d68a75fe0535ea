-- Where a switch goes on. (MiniRust, lang: terminators.)
use Rattle.std.specs.Prelude.{ℕ, false, if◌then◌else◌, List, [], ◌∷◌, Option, None, Some}
use Rattle.mr_ast.specs.declared.types.Num.{Num}
use Rattle.mr_ast.specs.declared.types.Ty.{Ty, out-Ty}
use Rattle.mr_ast.specs.declared.types.Ty.TheOpen.{Ty-F}
use Rattle.mr_ast.specs.declared.types.Variant.{Variant}
use Rattle.mr_ast.specs.declared.expr.Value.{Value}
use Rattle.mr_ast.specs.declared.program.BlockName.{BlockName}
use Rattle.mr_layout.specs.EnumRules.{same_num}
use Rattle.mr_value.specs.declared.val.Val.{Val, out-Val}
use Rattle.mr_value.specs.declared.val.Val.TheOpen.{Val-F}
use Rattle.mr_value.specs.Discriminants.{number_of_bits}
use Rattle.mr_typing.specs.Types.{type_of_value}
use Rattle.mr_base.specs.Script.{Done, ◌>>=◌}
use Rattle.mr_eval.specs.Reads.{ReadScript}
use Rattle.mr_eval.specs.Evaluation.{Surround, value_script}
use Rattle.mr_eval.specs.Operators.{or_ill_formed}

-- the number that an integer is; a bool counts as 0 or 1
abbrev pub number_layer : Ty-F Ty Variant → Val-F Val → Option Num
number_layer (Ty-F.Int int) (Val-F.Int bits) = Some (number_of_bits int bits)
number_layer Ty-F.Bool (Val-F.Bool b) = Some (record { neg = false; mag = if b then 1 else 0 })
number_layer _ _ = None

-- the number that a value of the type is for a switch
abbrev pub number_as : Option Ty → Val → Option Num
number_as None v = None
number_as (Some t) v = number_layer (out-Ty t) (out-Val v)

-- the block of the first case with a number, and otherwise the other one
abbrev pub first_case : Num → List (Num × BlockName) → BlockName → ℕ
first_case n [] other = other.0
first_case n (c ∷ cases) other = if same_num c.0 n then c.1.0 else first_case n cases other

-- the block to which a switch on a value leads
abbrev pub switched : Surround → Value → List (Num × BlockName) → BlockName → ReadScript ℕ
switched s value cases other = do
  v ← value_script s value
  n ← or_ill_formed (number_as (type_of_value s.locals value) v)
  Done (first_case n cases other)
