-- The computed walk over a statement and a terminator tells the rules that they break.
use Rattle.mr_typing.proofs.Common.{◌≡◌, Bool, true, List, ◌++◌, map, length, Option, None, Some, Ok, refl, sym, ap, subst, ◌∙◌, ◌&&◌, not, is_some, list_all, and_parts, Rule, Ty, Num, Place, Value, Function, Stmt, is_block, is_optional_block, is_optional_place, is_shaped_stmt, is_shaped_target, is_shaped_term, is_shaped_num, Named, is_shaped_place, is_shaped_value, same_type, type_of_place, type_of_value, variant_type, is_fn_ptr, is_raw, Surroundings, broken_in_place, broken_in_value, rule, where_all_typed, where_both_typed, where_typed, broken_in_parts, broken_in_result, broken_in_stmt, broken_in_term, broken_in_values, fits_switch, is_allowed, is_kept, where_result_typed, ◌>>=◌, judged_place, judged_value, judged_values, kept}
use Rattle.mr_ast.specs.declared.program.BlockKind.{BlockKind}
use Rattle.mr_ast.specs.declared.program.Intrinsic.{Intrinsic}
use Rattle.mr_ast.specs.declared.program.Term.{Term}
use Rattle.mr_typing.specs.Intrinsics.{fits_intrinsic}
use Rattle.mr_typing.specs.JudgingBlocks.{judged_call, judged_intrinsic, judged_parts, judged_result, judged_stmt, judged_term}
use Rattle.mr_ast.specs.declared.rule.Rule.TheVariants as form
use Rattle.mr_ast.specs.declared.program.Stmt.TheVariants as stmt
use Rattle.mr_ast.specs.declared.program.Term.TheVariants as term
use Rattle.mr_typing.proofs.Tells.{Any, Tells, tells_kept, tells_map, tells_right, tells_then, tells_typed}
use Rattle.mr_typing.proofs.ExprWalk.{Judges, place_told, row_test, row_told, value_told}

-- this is the type of the place for a result, where there is a place
abbrev pub Gives : Surroundings → Option Place → Option Ty → Type 0
Gives at None result = result ≡ None
Gives at (Some p) result = (t : Ty) × (result ≡ Some t) × (type_of_place at.locals p ≡ Some t)

-- a test of the type of the place for a result
pub result_test : (at : Surroundings) (place : Option Place) (result : Option Ty) → Gives at place result → (test : Option Ty → Bool) → where_result_typed at.locals place test ≡ test result
result_test at None result gives test = ap test (sym gives)
result_test at (Some p) result gives test = ap (λ (o : Option Ty). where_typed o (λ u. test (Some u))) gives.2 ∙ ap test (sym gives.1)

module _ (named : Named) (f : Function) (at : Surroundings) (same : named.locals ≡ length at.locals) where
  -- ---- statements

  assign_told : (p : Place) (v : Value) → is_shaped_place named p ≡ true → is_shaped_value named v ≡ true → Tells (judged_stmt f at (stmt.Assign p v)) (broken_in_stmt f at (stmt.Assign p v)) Any
  assign_told p v left right =
      tells_right (judged_stmt f at (stmt.Assign p v)) (broken_in_place at p) (broken_in_value at v) (rule form.Assign (where_both_typed (type_of_place at.locals p) (type_of_value at.locals v) same_type)) Any
      (tells_typed (judged_place at p) (broken_in_place at p) (type_of_place at.locals p) (λ t. judged_value at v >>= (λ u. kept form.Assign (same_type t u)))
      (λ o. broken_in_value at v ++ rule form.Assign (where_both_typed o (type_of_value at.locals v) same_type)) (λ _. Any)
      (place_told named at same p left)
      (λ t. tells_typed (judged_value at v) (broken_in_value at v) (type_of_value at.locals v) (λ u. kept form.Assign (same_type t u))
      (λ o. rule form.Assign (where_typed o (same_type t))) (λ _. Any) (value_told named at same v right) (λ u. tells_kept form.Assign (same_type t u))))

  disc_told : (p : Place) (n : Num) → is_shaped_place named p ≡ true → Tells (judged_stmt f at (stmt.Disc p n)) (broken_in_stmt f at (stmt.Disc p n)) Any
  disc_told p n shaped =
      tells_typed (judged_place at p) (broken_in_place at p) (type_of_place at.locals p) (λ t. kept form.Discriminant (is_some (variant_type t n)))
      (λ o. rule form.Discriminant (where_typed o (λ t. is_some (variant_type t n)))) (λ _. Any) (place_told named at same p shaped) (λ t. tells_kept form.Discriminant (is_some (variant_type t n)))

  -- a statement that breaks no rule beside those of its place
  alone_told : (p : Place) → is_shaped_place named p ≡ true → Tells (judged_place at p >>= (λ _. Ok (tt {0}))) (broken_in_place at p) Any
  alone_told p shaped =
      tells_map (judged_place at p) (broken_in_place at p) (λ t. type_of_place at.locals p ≡ Some t) (λ _. tt {0}) Any (place_told named at same p shaped) (λ _ _. tt)

  pub stmt_told : (s : Stmt) → is_shaped_stmt named s ≡ true → Tells (judged_stmt f at s) (broken_in_stmt f at s) Any
  stmt_told (stmt.Live x) shaped = tells_kept form.LiveLocal (not (is_kept f x))
  stmt_told (stmt.Dead x) shaped = tells_kept form.LiveLocal (not (is_kept f x))
  stmt_told (stmt.Assign p v) shaped =
      let parts = and_parts (is_shaped_place named p) (is_shaped_value named v) shaped in
      assign_told p v parts.0 parts.1
  stmt_told (stmt.Mention p) shaped = alone_told p shaped
  stmt_told (stmt.Disc p n) shaped = disc_told p n (and_parts (is_shaped_place named p) (is_shaped_num n) shaped).0
  stmt_told (stmt.Deinit p) shaped = alone_told p shaped
  stmt_told (stmt.Validate p) shaped = alone_told p shaped

  -- ---- terminators

  pub result_told : (place : Option Place) → is_optional_place named place ≡ true → Tells (judged_result at place) (broken_in_result at place) (Gives at place)
  result_told None shaped = (refl, refl)
  result_told (Some p) shaped =
      tells_map (judged_place at p) (broken_in_place at p) (λ t. type_of_place at.locals p ≡ Some t) (λ t. Some t) (Gives at (Some p)) (place_told named at same p shaped)
      (λ t is. (t, refl, is))

  call_told : (callee : Value) (args : List Value) (p : Place) → is_shaped_value named callee ≡ true → list_all (is_shaped_value named) args ≡ true → is_shaped_place named p ≡ true
      → Tells (judged_call at callee args p) (((broken_in_value at callee ++ broken_in_values at args) ++ broken_in_place at p) ++ rule form.Callee (where_typed (type_of_value at.locals callee) is_fn_ptr)) Any
  call_told callee args p first row last =
      let call = judged_call at callee args p in
      let kept_rules = rule form.Callee (where_typed (type_of_value at.locals callee) is_fn_ptr) in
      tells_right call (broken_in_value at callee ++ broken_in_values at args) (broken_in_place at p) kept_rules Any
      (tells_right call (broken_in_value at callee) (broken_in_values at args) (broken_in_place at p ++ kept_rules) Any
      (tells_typed (judged_value at callee) (broken_in_value at callee) (type_of_value at.locals callee) (λ t. judged_values at args >>= (λ _. judged_place at p >>= (λ _. kept form.Callee (is_fn_ptr t))))
      (λ o. broken_in_values at args ++ (broken_in_place at p ++ rule form.Callee (where_typed o is_fn_ptr))) (λ _. Any) (value_told named at same callee first)
      (λ t. tells_then (judged_values at args) (broken_in_values at args) (broken_in_place at p ++ rule form.Callee (is_fn_ptr t)) (Judges at args)
      (λ _. judged_place at p >>= (λ _. kept form.Callee (is_fn_ptr t))) Any (row_told named at same args row)
      (λ _ _. tells_then (judged_place at p) (broken_in_place at p) (rule form.Callee (is_fn_ptr t)) (λ u. type_of_place at.locals p ≡ Some u)
      (λ _. kept form.Callee (is_fn_ptr t)) Any (place_told named at same p last) (λ _ _. tells_kept form.Callee (is_fn_ptr t))))))

  -- whether an intrinsic fits, as far as its parts have types
  abbrev fits_typed : Intrinsic → List Value → Option Place → Bool
  fits_typed op args place = where_all_typed (map (type_of_value at.locals) args) (λ types. where_result_typed at.locals place (fits_intrinsic op types))

  intrinsic_told : (op : Intrinsic) (args : List Value) (place : Option Place) → list_all (is_shaped_value named) args ≡ true → is_optional_place named place ≡ true
      → Tells (judged_intrinsic at op args place) ((broken_in_values at args ++ broken_in_result at place) ++ rule form.Intrinsic (fits_typed op args place)) Any
  intrinsic_told op args place row last =
      tells_right (judged_intrinsic at op args place) (broken_in_values at args) (broken_in_result at place) (rule form.Intrinsic (fits_typed op args place)) Any
      (tells_then (judged_values at args) (broken_in_values at args) (broken_in_result at place ++ rule form.Intrinsic (fits_typed op args place)) (Judges at args)
      (λ types. judged_result at place >>= (λ result. kept form.Intrinsic (fits_intrinsic op types result))) Any (row_told named at same args row)
      (λ types are. tells_then (judged_result at place) (broken_in_result at place) (rule form.Intrinsic (fits_typed op args place)) (Gives at place)
      (λ result. kept form.Intrinsic (fits_intrinsic op types result)) Any (result_told place last)
      (λ result gives. subst (λ (b : Bool). Tells (kept form.Intrinsic (fits_intrinsic op types result)) (rule form.Intrinsic b) Any)
      (sym (row_test at args types are (λ ts. where_result_typed at.locals place (fits_intrinsic op ts)) ∙ result_test at place result gives (fits_intrinsic op types)))
      (tells_kept form.Intrinsic (fits_intrinsic op types result)))))

  -- a terminator with one value
  one_told : (v : Value) (broken : Rule) (test : Ty → Bool) → is_shaped_value named v ≡ true
      → Tells (judged_value at v >>= (λ t. kept broken (test t))) (broken_in_value at v ++ rule broken (where_typed (type_of_value at.locals v) test)) Any
  one_told v broken test shaped =
      tells_typed (judged_value at v) (broken_in_value at v) (type_of_value at.locals v) (λ t. kept broken (test t)) (λ o. rule broken (where_typed o test)) (λ _. Any)
      (value_told named at same v shaped) (λ t. tells_kept broken (test t))

  parts_told : (t : Term) → is_shaped_term named t ≡ true → Tells (judged_parts at t) (broken_in_parts at t) Any
  parts_told (term.Switch v cases other) shaped =
      one_told v form.Switch (fits_switch cases) (and_parts (is_shaped_value named v) (list_all (is_shaped_target named) cases && is_block named other) shaped).0
  parts_told (term.Unwind v b) shaped = one_told v form.Payload is_raw (and_parts (is_shaped_value named v) (is_block named b) shaped).0
  parts_told (term.Call callee args p next unwind) shaped =
      let blocks = is_optional_block named next && is_optional_block named unwind in
      let first = and_parts (is_shaped_value named callee) (list_all (is_shaped_value named) args && (is_shaped_place named p && blocks)) shaped in
      let row = and_parts (list_all (is_shaped_value named) args) (is_shaped_place named p && blocks) first.1 in
      call_told callee args p first.0 row.0 (and_parts (is_shaped_place named p) blocks row.1).0
  parts_told (term.Do op args place next) shaped =
      let row = and_parts (list_all (is_shaped_value named) args) (is_optional_place named place && is_block named next) shaped in
      intrinsic_told op args place row.0 (and_parts (is_optional_place named place) (is_block named next) row.1).0
  parts_told _ shaped = (refl, tt)

  pub term_told : (k : BlockKind) (t : Term) → is_shaped_term named t ≡ true → Tells (judged_term f at k t) (broken_in_term f at k t) Any
  term_told k t shaped =
      tells_then (judged_parts at t) (broken_in_parts at t) (rule form.BlockKind (is_allowed f k t)) Any (λ _. kept form.BlockKind (is_allowed f k t)) Any (parts_told t shaped) (λ _ _. tells_kept form.BlockKind (is_allowed f k t))
