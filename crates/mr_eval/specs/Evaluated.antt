-- What the evaluation of an expression over a memory comes to: a pointer or a value with what was seen by then, a
-- reason, or no rule.
use Rattle.std.specs.Prelude.{ℕ, if◌then◌else◌, List, [], ◌∷◌, Option, None, Some, pos}
use Rattle.std.specs.Option.{is_some}
use Rattle.mr_ast.specs.declared.types.IntType.{IntType}
use Rattle.mr_ast.specs.declared.types.Num.{Num}
use Rattle.mr_ast.specs.declared.types.Tree.{Tree}
use Rattle.mr_ast.specs.declared.types.Ty.{Ty, out-Ty}
use Rattle.mr_ast.specs.declared.types.Ty.TheOpen.{Ty-F}
use Rattle.mr_ast.specs.declared.types.Variant.{Variant}
use Rattle.mr_ast.specs.declared.expr.Place.{Place}
use Rattle.mr_ast.specs.declared.expr.Value.{Value}
use Rattle.mr_base.specs.declared.byte.Pointer.{Pointer}
use Rattle.mr_base.specs.declared.reason.Reason.TheVariants.{TransmuteInvalid}
use Rattle.mr_layout.specs.EnumRules.{same_num}
use Rattle.mr_value.specs.Numbers.{Bytes}
use Rattle.mr_mem.specs.Memory.{Memory}
use Rattle.mr_value.specs.declared.val.Val.{Val}
use Rattle.mr_value.specs.declared.val.Val.TheVariants as val
use Rattle.mr_value.specs.Discriminants.{bits_of_number}
use Rattle.mr_value.specs.Encode.{encoding_of}
use Rattle.mr_value.specs.Shape.{has_shape}
use Rattle.mr_typing.specs.Types.{chained, variant_type}
use Rattle.mr_base.specs.Stops.{Stop}
use Rattle.mr_base.specs.Stops.{plainly}
use Rattle.mr_base.specs.Script.{Broken, Outcome, Went, ◌>>=◌, on, run}
use Rattle.mr_eval.specs.Reads.{Seen, reading}
use Rattle.mr_eval.specs.Typed.{Targets, loading, meant, numbered, referring, searched}
use Rattle.mr_eval.specs.Evaluation.{Surround, element_at, elements_in, offset_in, place_script, value_script}
use Rattle.mr_eval.specs.Evaluation.{values_script}
use Rattle.mr_eval.specs.Moves.{moved}
use Rattle.mr_eval.specs.Operators.{index_of_value, or_ill_formed}

unfoldable pub placed : Memory → Surround → Place → Seen → Outcome Pointer Seen
placed m s p seen = run (reading m) (place_script s p) seen

unfoldable pub valued : Memory → Surround → Value → Seen → Outcome Val Seen
valued m s v seen = run (reading m) (value_script s v) seen

-- the integer of a branch of a tree, at a pointer
unfoldable pub read_number : Memory → IntType → Pointer → Seen → Outcome Num Seen
read_number m int p seen = run (reading m) (numbered int p) seen

-- the discriminant that a tree finds
unfoldable pub found_number : Memory → Tree → Pointer → Seen → Outcome Num Seen
found_number m t p seen = run (reading m) (searched t p) seen

-- the same, behind the branch that a number chooses
abbrev pub chosen_number : Memory → Num → List (Num × Tree) → Tree → Pointer → Seen → Outcome Num Seen
chosen_number m n [] rest p seen = found_number m rest p seen
chosen_number m n (c ∷ cases) rest p seen =
    if same_num c.0 n then found_number m c.1 p seen else chosen_number m n cases rest p seen

-- the load of a value of a type
unfoldable pub read_typed : Memory → Ty → Pointer → Seen → Outcome Val Seen
read_typed m t p seen = run (reading m) (loading t p) seen

-- the range checks of what references point to
unfoldable pub referred_to : Memory → Targets → Seen → Outcome (Unit {0}) Seen
referred_to m targets seen = run (reading m) (referring targets) seen

-- the value that bytes mean at a type, whose references point into allocations
unfoldable pub meant_by : Memory → Stop → Ty → Bytes → Seen → Outcome Val Seen
meant_by m r t bytes seen = run (reading m) (meant r t bytes) seen

-- ---- the levels of expressions

-- the values of expressions, from left to right
unfoldable pub each_valued : Memory → Surround → List Value → Seen → Outcome (List Val) Seen
each_valued m s vs seen = run (reading m) (values_script s vs) seen

-- the field of this number, of a whole of a type at a pointer
unfoldable pub in_field : Memory → Option Ty → ℕ → Pointer → Seen → Outcome Pointer Seen
in_field m t k p seen = run (reading m) (or_ill_formed (offset_in t k) >>= (λ n. moved p (pos n))) seen

-- the element at a position, of an array of a type at a pointer
unfoldable pub in_array : Memory → Option Ty → Val → Pointer → Seen → Outcome Pointer Seen
in_array m t i p seen =
    run (reading m) (index_of_value i >>= (λ n. or_ill_formed (elements_in t) >>= element_at p n)) seen

-- a place of a type, as a variant of it
abbrev pub at_variant : Option Ty → Num → Pointer → Seen → Outcome Pointer Seen
at_variant t n p seen = if is_some (chained t (λ u. variant_type u n)) then Went p seen else Broken

-- the load of a place of a type
abbrev pub load_at : Memory → Option Ty → Pointer → Seen → Outcome Val Seen
load_at m None p seen = Broken
load_at m (Some t) p seen = read_typed m t p seen

-- the discriminant that a place of a type holds
abbrev pub disc_layer : Memory → Ty-F Ty Variant → Pointer → Seen → Outcome Val Seen
disc_layer m (Ty-F.Enum size align disc variants tree) p seen =
    on (found_number m tree p seen) (λ n s. Went (val.Int (bits_of_number disc n)) s)
disc_layer m _ p seen = Broken

abbrev pub disc_at : Memory → Option Ty → Pointer → Seen → Outcome Val Seen
disc_at m None p seen = Broken
disc_at m (Some t) p seen = disc_layer m (out-Ty t) p seen

-- the bytes of a value of a type's shape, taken for another type
abbrev pub transmuted_to : Memory → Ty → Option Ty → Val → Seen → Outcome Val Seen
transmuted_to m to None v seen = Broken
transmuted_to m to (Some from) v seen =
    if has_shape from v then meant_by m (plainly TransmuteInvalid) to (encoding_of from v) seen else Broken
