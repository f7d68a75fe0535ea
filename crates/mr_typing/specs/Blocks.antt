-- The rules that statements, terminators and blocks break.
use Rattle.std.specs.Prelude.{Bool, true, false, not, ◌&&◌, ◌||◌, ◌==◌, List, [], ◌∷◌, ◌++◌, map, flat_map, Option}
use Rattle.std.specs.Prelude.{None, Some, is_some, slice_get}
use Rattle.std.specs.List.{list_all, list_any}
use Rattle.mr_ast.specs.declared.rule.Rule.TheVariants as form
use Rattle.mr_ast.specs.declared.types.IntType.{IntType}
use Rattle.mr_ast.specs.declared.types.Num.{Num}
use Rattle.mr_ast.specs.declared.types.Ty.{Ty, out-Ty}
use Rattle.mr_ast.specs.declared.types.Ty.TheOpen.{Ty-F}
use Rattle.mr_ast.specs.declared.types.Variant.{Variant}
use Rattle.mr_ast.specs.declared.expr.Place.{Place}
use Rattle.mr_ast.specs.declared.expr.Value.{Value}
use Rattle.mr_ast.specs.declared.program.LocalName.{LocalName}
use Rattle.mr_ast.specs.declared.program.BlockName.{BlockName}
use Rattle.mr_ast.specs.declared.program.BlockKind.{BlockKind}
use Rattle.mr_ast.specs.declared.program.BlockKind.TheVariants as kind
use Rattle.mr_ast.specs.declared.program.Function.{Function}
use Rattle.mr_ast.specs.declared.program.Local.{Local}
use Rattle.mr_ast.specs.declared.program.Stmt.{Stmt}
use Rattle.mr_ast.specs.declared.program.Stmt.TheVariants as stmt
use Rattle.mr_ast.specs.declared.program.Term.{Term}
use Rattle.mr_ast.specs.declared.program.Term.TheVariants as term
use Rattle.mr_layout.specs.EnumRules.{is_case}
use Rattle.mr_ast.specs.Integers.{is_fitting}
use Rattle.mr_typing.specs.SameTypes.{same_type}
use Rattle.mr_typing.specs.Types.{type_of_place, type_of_value, variant_type}
use Rattle.mr_typing.specs.Operands.{is_fn_ptr, is_raw}
use Rattle.mr_typing.specs.Intrinsics.{fits_intrinsic}
use Rattle.mr_typing.specs.Broken.{Rules, Surroundings, broken_in_place, broken_in_value, rule, where_all_typed}
use Rattle.mr_typing.specs.Broken.{where_both_typed, where_typed}

-- ---- statements

-- the local is an argument of the function, or the one that it returns
abbrev pub is_kept : Function → LocalName → Bool
is_kept f x = (x.0 == f.ret.0) || list_any (λ (y : LocalName). y.0 == x.0) f.args

-- the rules that a statement breaks
abbrev pub broken_in_stmt : Function → Surroundings → Stmt → Rules
broken_in_stmt f at (stmt.Live x) = rule form.LiveLocal (not (is_kept f x))
broken_in_stmt f at (stmt.Dead x) = rule form.LiveLocal (not (is_kept f x))
broken_in_stmt f at (stmt.Assign place value) =
    broken_in_place at place ++ broken_in_value at value
    ++ rule form.Assign (where_both_typed (type_of_place at.locals place) (type_of_value at.locals value) same_type)
broken_in_stmt f at (stmt.Mention place) = broken_in_place at place
broken_in_stmt f at (stmt.Disc place number) =
    broken_in_place at place
    ++ rule form.Discriminant (where_typed (type_of_place at.locals place) (λ t. is_some (variant_type t number)))
broken_in_stmt f at (stmt.Deinit place) = broken_in_place at place
broken_in_stmt f at (stmt.Validate place) = broken_in_place at place

-- ---- switches

-- each case is a number that fits the integer, and stands once
abbrev pub are_int_cases : IntType → List (Num × BlockName) → Bool
are_int_cases i [] = true
are_int_cases i (c ∷ cases) = is_fitting i c.0 && (not (is_case c.0 cases) && are_int_cases i cases)

-- the cases of a switch on a bool: 0 and 1, each once
abbrev pub are_bool_cases : List (Num × BlockName) → Bool
are_bool_cases [] = true
are_bool_cases (c ∷ cases) =
    (not c.0.neg && ((c.0.mag == 0) || (c.0.mag == 1))) && (not (is_case c.0 cases) && are_bool_cases cases)

-- a switch on a value of this type
abbrev pub fits_switch_layer : List (Num × BlockName) → Ty-F Ty Variant → Bool
fits_switch_layer cases (Ty-F.Int i) = are_int_cases i cases
fits_switch_layer cases Ty-F.Bool = are_bool_cases cases
fits_switch_layer cases _ = false

-- the cases fit the type of what is switched on
abbrev pub fits_switch : List (Num × BlockName) → Ty → Bool
fits_switch cases t = fits_switch_layer cases (out-Ty t)

-- ---- kinds of blocks

-- they are blocks of one kind
abbrev pub same_kind : BlockKind → BlockKind → Bool
same_kind kind.Regular kind.Regular = true
same_kind kind.Cleanup kind.Cleanup = true
same_kind kind.Catch kind.Catch = true
same_kind kind.Terminate kind.Terminate = true
same_kind _ _ = false

-- the kind of the block of this number
abbrev pub has_kind : Function → (BlockKind → Bool) → BlockName → Bool
has_kind f test b = elim (slice_get f.blocks b.0) as (λ _. Bool) [ Some block ↦ test block.kind | None ↦ false ]

-- where a block of a kind goes on: to a block of its own kind
abbrev pub goes_to : Function → BlockKind → BlockName → Bool
goes_to f k b = has_kind f (same_kind k) b

-- where unwinding leads from a regular block: to any but a regular one
abbrev pub unwinds_to : Function → BlockName → Bool
unwinds_to f b = has_kind f (λ k. not (same_kind kind.Regular k)) b

-- where a call in a block of a kind unwinds to
abbrev pub call_unwinds_to : Function → BlockKind → BlockName → Bool
call_unwinds_to f kind.Regular b = unwinds_to f b
call_unwinds_to f _ b = goes_to f kind.Terminate b

-- a target that may be missing
abbrev pub where_there : (BlockName → Bool) → Option BlockName → Bool
where_there test None = true
where_there test (Some b) = test b

-- a terminator that a block of this kind may end with, and that leads to blocks of kinds that it may lead to
abbrev pub is_allowed : Function → BlockKind → Term → Bool
is_allowed f k (term.Goto b) = goes_to f k b
is_allowed f k (term.Switch value cases other) = list_all (λ c. goes_to f k c.1) cases && goes_to f k other
is_allowed f k term.Return = same_kind k kind.Regular
is_allowed f k term.Resume = same_kind k kind.Cleanup
is_allowed f k (term.Stop b) = same_kind k kind.Catch && goes_to f kind.Regular b
is_allowed f k (term.Unwind payload b) = same_kind k kind.Regular && unwinds_to f b
is_allowed f k (term.Call callee args place next unwind) =
    where_there (goes_to f k) next && where_there (call_unwinds_to f k) unwind
is_allowed f k (term.Do intrinsic args place next) = goes_to f k next
is_allowed f k _ = true

-- ---- terminators

-- the rules that are broken in the values of a call
abbrev pub broken_in_values : Surroundings → List Value → Rules
broken_in_values at values = flat_map (broken_in_value at) values

-- a test of the types of arguments and of the place of a result, which may be missing
abbrev pub where_result_typed : List Local → Option Place → (Option Ty → Bool) → Bool
where_result_typed locals None test = test None
where_result_typed locals (Some place) test = where_typed (type_of_place locals place) (λ t. test (Some t))

-- the rules that the place of a result breaks
abbrev pub broken_in_result : Surroundings → Option Place → Rules
broken_in_result at None = []
broken_in_result at (Some place) = broken_in_place at place

-- the rules that a terminator breaks beside those of kinds
abbrev pub broken_in_parts : Surroundings → Term → Rules
broken_in_parts at (term.Switch value cases other) =
    broken_in_value at value ++ rule form.Switch (where_typed (type_of_value at.locals value) (fits_switch cases))
broken_in_parts at (term.Unwind payload b) =
    broken_in_value at payload ++ rule form.Payload (where_typed (type_of_value at.locals payload) is_raw)
broken_in_parts at (term.Call callee args place next unwind) =
    broken_in_value at callee ++ broken_in_values at args ++ broken_in_place at place
    ++ rule form.Callee (where_typed (type_of_value at.locals callee) is_fn_ptr)
broken_in_parts at (term.Do intrinsic args place next) =
    broken_in_values at args ++ broken_in_result at place ++ rule form.Intrinsic
    (where_all_typed (map (type_of_value at.locals) args)
    (λ types. where_result_typed at.locals place (fits_intrinsic intrinsic types)))
broken_in_parts at _ = []

-- the rules that a terminator of a block of this kind breaks; that of kinds comes last
abbrev pub broken_in_term : Function → Surroundings → BlockKind → Term → Rules
broken_in_term f at k t = broken_in_parts at t ++ rule form.BlockKind (is_allowed f k t)
