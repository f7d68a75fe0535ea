-- The walk over statements, terminators and blocks, computed: the first broken rule, if there is one.
use Rattle.std.specs.Prelude.{not, List, Option, None, Some, Result, Ok, is_some}
use Rattle.mr_ast.specs.declared.rule.Rule.{Rule}
use Rattle.mr_ast.specs.declared.rule.Rule.TheVariants as form
use Rattle.mr_ast.specs.declared.types.Ty.{Ty}
use Rattle.mr_ast.specs.declared.expr.Place.{Place}
use Rattle.mr_ast.specs.declared.expr.Value.{Value}
use Rattle.mr_ast.specs.declared.program.Intrinsic.{Intrinsic}
use Rattle.mr_ast.specs.declared.program.BlockKind.{BlockKind}
use Rattle.mr_ast.specs.declared.program.Function.{Function}
use Rattle.mr_ast.specs.declared.program.Stmt.{Stmt}
use Rattle.mr_ast.specs.declared.program.Stmt.TheVariants as stmt
use Rattle.mr_ast.specs.declared.program.Term.{Term}
use Rattle.mr_ast.specs.declared.program.Term.TheVariants as term
use Rattle.mr_typing.specs.SameTypes.{same_type}
use Rattle.mr_typing.specs.Types.{variant_type}
use Rattle.mr_typing.specs.Operands.{is_fn_ptr, is_raw}
use Rattle.mr_typing.specs.Intrinsics.{fits_intrinsic}
use Rattle.mr_typing.specs.Broken.{Surroundings}
use Rattle.mr_typing.specs.Blocks.{fits_switch, is_allowed, is_kept}
use Rattle.mr_typing.specs.Judging.{◌>>=◌, judged_place, judged_value, judged_values, kept}

abbrev pub Judged : Type 0
Judged = Result (Unit {0}) Rule

-- ---- statements

abbrev pub judged_stmt : Function → Surroundings → Stmt → Judged
judged_stmt f at (stmt.Live x) = kept form.LiveLocal (not (is_kept f x))
judged_stmt f at (stmt.Dead x) = kept form.LiveLocal (not (is_kept f x))
judged_stmt f at (stmt.Assign place value) = do
  t ← judged_place at place
  u ← judged_value at value
  kept form.Assign (same_type t u)
judged_stmt f at (stmt.Mention place) = do
  _ ← judged_place at place
  Ok tt
judged_stmt f at (stmt.Disc place number) = do
  t ← judged_place at place
  kept form.Discriminant (is_some (variant_type t number))
judged_stmt f at (stmt.Deinit place) = do
  _ ← judged_place at place
  Ok tt
judged_stmt f at (stmt.Validate place) = do
  _ ← judged_place at place
  Ok tt

-- ---- terminators

-- the type of the place of a result
abbrev pub judged_result : Surroundings → Option Place → Result (Option Ty) Rule
judged_result at None = Ok None
judged_result at (Some place) = do
  t ← judged_place at place
  Ok (Some t)

abbrev pub judged_call : Surroundings → Value → List Value → Place → Judged
judged_call at callee args place = do
  t ← judged_value at callee
  _ ← judged_values at args
  _ ← judged_place at place
  kept form.Callee (is_fn_ptr t)

abbrev pub judged_intrinsic : Surroundings → Intrinsic → List Value → Option Place → Judged
judged_intrinsic at op args place = do
  types ← judged_values at args
  result ← judged_result at place
  kept form.Intrinsic (fits_intrinsic op types result)

abbrev pub judged_parts : Surroundings → Term → Judged
judged_parts at (term.Switch value cases other) = do
  t ← judged_value at value
  kept form.Switch (fits_switch cases t)
judged_parts at (term.Unwind payload b) = do
  t ← judged_value at payload
  kept form.Payload (is_raw t)
judged_parts at (term.Call callee args place next unwind) = judged_call at callee args place
judged_parts at (term.Do intrinsic args place next) = judged_intrinsic at intrinsic args place
judged_parts at _ = Ok tt

abbrev pub judged_term : Function → Surroundings → BlockKind → Term → Judged
judged_term f at k t = do
  _ ← judged_parts at t
  kept form.BlockKind (is_allowed f k t)
