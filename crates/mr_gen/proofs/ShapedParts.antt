-- Places, values, statements and ends whose names are positions and whose numbers can be written.
use Rattle.mr_gen.proofs.Common.{◌≡◌, ℕ, ◌^◌, Bool, true, [], ◌∷◌, refl, ◌∙◌, ◌&&◌, nat_lt, U64, BlockName, action, counter, creation, handle, increment, plain_num, round, u64_value, with_number}
use Rattle.mr_ast.specs.declared.types.IntType.{IntType}
use Rattle.mr_ast.specs.declared.expr.BinaryOp.{BinaryOp}
use Rattle.mr_ast.specs.declared.expr.BinaryOp.TheVariants.{Add, Lt}
use Rattle.mr_ast.specs.declared.expr.Place.{Place}
use Rattle.mr_ast.specs.declared.expr.Value.{Value}
use Rattle.mr_ast.specs.declared.program.FnName.{FnName}
use Rattle.mr_ast.specs.declared.program.GlobalName.{GlobalName}
use Rattle.mr_ast.specs.declared.program.Intrinsic.{Intrinsic}
use Rattle.mr_ast.specs.Shaped.{is_shaped_stmt, is_shaped_term}
use Rattle.mr_ast.specs.ShapedTypes.{is_shaped_num}
use Rattle.mr_ast.specs.ShapedValues.{Named, is_shaped_place, is_shaped_value}
use Rattle.mr_ast.proofs.ShapedLaws.{shaped_binary, shaped_deref, shaped_fn, shaped_global, shaped_int, shaped_int_type, shaped_load, shaped_local_place, shaped_raw}
use Rattle.mr_ast.specs.declared.types.Ty.TheVariants as ty
use Rattle.mr_ast.specs.declared.expr.Value.TheVariants as value
use Rattle.mr_ast.specs.declared.program.Intrinsic.TheVariants as intrinsic
use Rattle.mr_ast.specs.declared.program.Stmt.TheVariants as stmt
use Rattle.mr_ast.specs.declared.program.Term.TheVariants as term

-- two tests that pass
pub both_pass : {a b : Bool} → a ≡ true → b ≡ true → (a && b) ≡ true
both_pass x y = (λ i. x i && y i)

module _ (named : Named) where
  pub shaped_number : (i : IntType) (n : ℕ) → nat_lt n (2 ^ 128) ≡ true → is_shaped_value named (value.Int i (plain_num n)) ≡ true
  shaped_number i n below = shaped_int named i (plain_num n) ∙ both_pass below refl

  pub shaped_round : nat_lt 2 named.locals ≡ true → is_shaped_place named round ≡ true
  shaped_round there = shaped_local_place named (record { 0 = 2 }) ∙ there

  pub shaped_handle : nat_lt 1 named.locals ≡ true → is_shaped_place named handle ≡ true
  shaped_handle there = shaped_local_place named (record { 0 = 1 }) ∙ there

  pub shaped_counter : nat_lt 0 named.globals ≡ true → is_shaped_place named counter ≡ true
  shaped_counter there =
      let g : GlobalName = record { 0 = 0 } in
      shaped_deref named (value.Global g 0) (ty.Int U64) ∙ both_pass (shaped_global named g 0 ∙ both_pass there refl) (shaped_int_type U64)

  pub shaped_loaded : (p : Place) → is_shaped_place named p ≡ true → is_shaped_value named (value.Load p) ≡ true
  shaped_loaded p there = shaped_load named p ∙ there

  pub shaped_with_number : (op : BinaryOp) (p : Place) (n : ℕ) → is_shaped_place named p ≡ true → nat_lt n (2 ^ 128) ≡ true → is_shaped_value named (with_number op p n) ≡ true
  shaped_with_number op p n there below =
      shaped_binary named op (value.Load p) (u64_value n) ∙ both_pass (shaped_loaded p there) (shaped_number U64 n below)

  pub shaped_assign : (p : Place) (v : Value) → is_shaped_place named p ≡ true → is_shaped_value named v ≡ true → is_shaped_stmt named (stmt.Assign p v) ≡ true
  shaped_assign p v to from = both_pass to from

  pub shaped_increment : (p : Place) → is_shaped_place named p ≡ true → is_shaped_stmt named (increment p) ≡ true
  shaped_increment p there = both_pass there (shaped_with_number Add p 1 there refl)

  pub shaped_test : (p : Place) (n : ℕ) (then_block other : BlockName) → is_shaped_place named p ≡ true → nat_lt n (2 ^ 128) ≡ true → nat_lt then_block.0 named.blocks ≡ true → nat_lt other.0 named.blocks ≡ true
      → is_shaped_term named (term.Switch (with_number Lt p n) ((plain_num 1, then_block) ∷ []) other) ≡ true
  shaped_test p n then_block other there below to_then to_other =
      both_pass (shaped_with_number Lt p n there below) (both_pass (both_pass {b = true} (both_pass {a = is_shaped_num (plain_num 1)} refl to_then) refl) to_other)

  pub shaped_action : (op : Intrinsic) (v : Value) (next : ℕ) → is_shaped_value named v ≡ true → nat_lt next named.blocks ≡ true → is_shaped_term named (action op v next) ≡ true
  shaped_action op v next arg to = both_pass (both_pass {b = true} arg refl) (both_pass {a = true} refl to)

  pub shaped_spawn : (w : FnName) (next : ℕ) → nat_lt w.0 named.functions ≡ true → nat_lt 1 named.locals ≡ true → nat_lt next named.blocks ≡ true
      → is_shaped_term named (creation intrinsic.Spawn (value.Fn w ∷ value.Raw 0 ∷ []) next) ≡ true
  shaped_spawn w next known there to =
      both_pass (both_pass (shaped_fn named w ∙ known) (both_pass {b = true} (shaped_raw named 0) refl)) (both_pass (shaped_handle there) to)

  pub shaped_lock : (next : ℕ) → nat_lt 1 named.locals ≡ true → nat_lt next named.blocks ≡ true → is_shaped_term named (creation intrinsic.CreateLock [] next) ≡ true
  shaped_lock next there to = both_pass {a = true} refl (both_pass (shaped_handle there) to)
