-- The parts of a statement and a terminator that break no rule have types that fit.
use Rattle.mr_typing.proofs.Common.{◌≡◌, Bool, true, List, [], ◌++◌, map, length, Option, Some, refl, sym, ap, ◌∙◌, ◌&&◌, not, is_some, list_all, and_parts, Num, Ty, Place, Value, Function, LocalName, is_block, is_optional_block, is_optional_place, is_shaped_stmt, is_shaped_target, is_shaped_term, is_shaped_num, Named, is_shaped_place, is_shaped_value, same_type, type_of_place, type_of_value, variant_type, is_fn_ptr, is_raw, Surroundings, broken_in_place, broken_in_value, rule, where_all_typed, where_both_typed, where_typed, broken_in_parts, broken_in_result, broken_in_stmt, broken_in_values, fits_switch, is_kept, where_result_typed}
use Rattle.mr_ast.specs.declared.program.BlockName.{BlockName}
use Rattle.mr_ast.specs.declared.program.Intrinsic.{Intrinsic}
use Rattle.mr_typing.specs.Intrinsics.{fits_intrinsic}
use Rattle.mr_typing.specs.JudgingBlocks.{judged_result}
use Rattle.mr_ast.specs.declared.rule.Rule.TheVariants as form
use Rattle.mr_ast.specs.declared.program.Stmt.TheVariants as stmt
use Rattle.mr_ast.specs.declared.program.Term.TheVariants as term
use Rattle.mr_typing.proofs.NothingLaws.{both_nothing, rule_kept, three_nothing}
use Rattle.mr_typing.proofs.SameTypeLaws.{same_type_equal}
use Rattle.mr_typing.proofs.Tells.{tells_unbroken}
use Rattle.mr_typing.proofs.ExprWalk.{Judges, row_test}
use Rattle.mr_typing.proofs.StmtWalk.{Gives, result_test, result_told}
use Rattle.mr_typing.proofs.TypedLaws.{TypedPlace, TypedRow, TypedValue, any_type, place_fits, typed_place, typed_row, typed_value, value_fits}

-- both sides have one type
pub record TypedAssign (at : Surroundings) (p : Place) (v : Value) : Type 0 where
  pub ty : Ty
  pub place : type_of_place at.locals p ≡ Some ty
  pub value : type_of_value at.locals v ≡ Some ty
  pub unbroken_place : broken_in_place at p ≡ []
  pub unbroken_value : broken_in_value at v ≡ []

-- the arguments and the place for a result fit the intrinsic
pub record TypedDo (at : Surroundings) (op : Intrinsic) (args : List Value) (place : Option Place) : Type 0 where
  pub types : List Ty
  pub result : Option Ty
  pub are : Judges at args types
  pub gives : Gives at place result
  pub unbroken_args : broken_in_values at args ≡ []
  pub unbroken_place : broken_in_result at place ≡ []
  pub fits : fits_intrinsic op types result ≡ true

-- nothing is asked of types in a row
abbrev pub any_types : List Ty → Bool
any_types types = true

module _ (named : Named) (f : Function) (at : Surroundings) (same : named.locals ≡ length at.locals) where
  pub typed_dead : (x : LocalName) → broken_in_stmt f at (stmt.Dead x) ≡ [] → not (is_kept f x) ≡ true
  typed_dead x e = rule_kept form.LiveLocal (not (is_kept f x)) e

  pub typed_assign : (p : Place) (v : Value) → is_shaped_stmt named (stmt.Assign p v) ≡ true → broken_in_stmt f at (stmt.Assign p v) ≡ [] → TypedAssign at p v
  typed_assign p v shaped e =
      let kept = where_both_typed (type_of_place at.locals p) (type_of_value at.locals v) same_type in
      let s = and_parts (is_shaped_place named p) (is_shaped_value named v) shaped in
      let none = three_nothing (broken_in_place at p) (broken_in_value at v) (rule form.Assign kept) e in
      let t = typed_place named at same p s.0 none.0 in
      let u = typed_value named at same v s.1 none.1 in
      let fits = sym (ap (λ (o : Option Ty). where_both_typed o (type_of_value at.locals v) same_type) t.1 ∙ ap (λ (o : Option Ty). where_typed o (same_type t.0)) u.1) ∙ rule_kept form.Assign kept none.2 in
      record { ty = u.0; place = t.1 ∙ ap (λ (x : Ty). Some x) (same_type_equal t.0 u.0 fits); value = u.1; unbroken_place = none.0; unbroken_value = none.1 }

  pub typed_disc_stmt : (p : Place) (n : Num) → is_shaped_stmt named (stmt.Disc p n) ≡ true → broken_in_stmt f at (stmt.Disc p n) ≡ [] → TypedPlace at p (λ t. is_some (variant_type t n))
  typed_disc_stmt p n shaped e =
      let none = both_nothing (broken_in_place at p) (rule form.Discriminant (where_typed (type_of_place at.locals p) (λ t. is_some (variant_type t n)))) e in
      place_fits named at same p form.Discriminant (λ t. is_some (variant_type t n)) (and_parts (is_shaped_place named p) (is_shaped_num n) shaped).0 none.0 none.1

  pub typed_switch : (v : Value) (cases : List (Num × BlockName)) (other : BlockName) → is_shaped_term named (term.Switch v cases other) ≡ true → broken_in_parts at (term.Switch v cases other) ≡ [] → TypedValue at v (fits_switch cases)
  typed_switch v cases other shaped e =
      let none = both_nothing (broken_in_value at v) (rule form.Switch (where_typed (type_of_value at.locals v) (fits_switch cases))) e in
      value_fits named at same v form.Switch (fits_switch cases) (and_parts (is_shaped_value named v) (list_all (is_shaped_target named) cases && is_block named other) shaped).0 none.0 none.1

  pub typed_unwind : (v : Value) (b : BlockName) → is_shaped_term named (term.Unwind v b) ≡ true → broken_in_parts at (term.Unwind v b) ≡ [] → TypedValue at v is_raw
  typed_unwind v b shaped e =
      let none = both_nothing (broken_in_value at v) (rule form.Payload (where_typed (type_of_value at.locals v) is_raw)) e in
      value_fits named at same v form.Payload is_raw (and_parts (is_shaped_value named v) (is_block named b) shaped).0 none.0 none.1

  pub typed_call : (callee : Value) (args : List Value) (p : Place) (next unwind : Option BlockName) → is_shaped_term named (term.Call callee args p next unwind) ≡ true
      → broken_in_parts at (term.Call callee args p next unwind) ≡ [] → TypedValue at callee is_fn_ptr × TypedRow at args any_types × TypedPlace at p any_type
  typed_call callee args p next unwind shaped e =
      let blocks = is_optional_block named next && is_optional_block named unwind in
      let first = and_parts (is_shaped_value named callee) (list_all (is_shaped_value named) args && (is_shaped_place named p && blocks)) shaped in
      let row = and_parts (list_all (is_shaped_value named) args) (is_shaped_place named p && blocks) first.1 in
      let last = and_parts (is_shaped_place named p) blocks row.1 in
      let kept = rule form.Callee (where_typed (type_of_value at.locals callee) is_fn_ptr) in
      let outer = both_nothing ((broken_in_value at callee ++ broken_in_values at args) ++ broken_in_place at p) kept e in
      let none = three_nothing (broken_in_value at callee) (broken_in_values at args) (broken_in_place at p) outer.0 in
      let ts = typed_row named at same args row.0 none.1 in
      let t = typed_place named at same p last.0 none.2 in (
        value_fits named at same callee form.Callee is_fn_ptr first.0 none.0 outer.1,
        record { types = ts.0; are = ts.1; unbroken = none.1; fits = refl },
        record { ty = t.0; is = t.1; unbroken = none.2; fits = refl },
      )

  pub typed_do : (op : Intrinsic) (args : List Value) (place : Option Place) (next : BlockName) → is_shaped_term named (term.Do op args place next) ≡ true
      → broken_in_parts at (term.Do op args place next) ≡ [] → TypedDo at op args place
  typed_do op args place next shaped e =
      let row = and_parts (list_all (is_shaped_value named) args) (is_optional_place named place && is_block named next) shaped in
      let last = and_parts (is_optional_place named place) (is_block named next) row.1 in
      let kept = where_all_typed (map (type_of_value at.locals) args) (λ types. where_result_typed at.locals place (fits_intrinsic op types)) in
      let none = three_nothing (broken_in_values at args) (broken_in_result at place) (rule form.Intrinsic kept) e in
      let ts = typed_row named at same args row.0 none.0 in
      let r = tells_unbroken (judged_result at place) (broken_in_result at place) (Gives at place) (result_told named f at same place last.0) none.1 in
      record {
        types = ts.0;
        result = r.0;
        are = ts.1;
        gives = r.1;
        unbroken_args = none.0;
        unbroken_place = none.1;
        fits = sym (row_test at args ts.0 ts.1 (λ types. where_result_typed at.locals place (fits_intrinsic op types)) ∙ result_test at place r.0 r.1 (fits_intrinsic op ts.0)) ∙ rule_kept form.Intrinsic kept none.2;
      }
