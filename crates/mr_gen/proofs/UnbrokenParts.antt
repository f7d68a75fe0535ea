-- Places, values, statements and ends that break no rule, from parts that break none.
use Rattle.mr_gen.proofs.Common.{◌≡◌, ℕ, ◌^◌, Bool, true, List, [], ◌∷◌, Option, None, Some, refl, ap, ◌∙◌, ◌&&◌, nat_lt, U32, U64, BlockName, Function, Local, Surroundings, broken_in_stmt, action, counter, creation, handle, increment, plain_num, u64_value, with_number}
use Rattle.std.proofs.Common.{option_map}
use Rattle.std.specs.Prelude.{◌||◌, is_some, slice_get}
use Rattle.mr_ast.specs.declared.types.IntType.{IntType}
use Rattle.mr_ast.specs.declared.types.Num.{Num}
use Rattle.mr_ast.specs.declared.types.Ty.{Ty}
use Rattle.mr_ast.specs.declared.types.Ty.TheOpen.{Ty-F}
use Rattle.mr_ast.specs.declared.types.Variant.{Variant}
use Rattle.mr_ast.specs.declared.expr.BinaryOp.{BinaryOp}
use Rattle.mr_ast.specs.declared.expr.BinaryOp.TheVariants.{Add, Lt}
use Rattle.mr_ast.specs.declared.expr.Place.{Place}
use Rattle.mr_ast.specs.declared.expr.Value.{Value}
use Rattle.mr_ast.specs.declared.program.FnName.{FnName}
use Rattle.mr_ast.specs.declared.program.GlobalName.{GlobalName}
use Rattle.mr_ast.specs.declared.program.Intrinsic.{Intrinsic}
use Rattle.mr_ast.specs.declared.program.LocalName.{LocalName}
use Rattle.mr_ast.specs.Integers.{is_fitting}
use Rattle.mr_layout.proofs.BrokenLaws.{broken_int}
use Rattle.mr_typing.specs.SameTypes.{same_type}
use Rattle.mr_typing.specs.Types.{chained, integer_in, result_type, type_of_place, type_of_value}
use Rattle.mr_typing.specs.Operands.{fits_binary, is_bool_layer, is_fn_ptr_layer, is_integer, is_pointer, is_raw, is_raw_layer, is_ref_layer, is_scalar_number}
use Rattle.mr_typing.specs.Intrinsics.{fits_intrinsic}
use Rattle.mr_typing.specs.Broken.{broken_in_place, broken_in_value, is_in_global, where_all_typed, where_both_typed, where_typed}
use Rattle.mr_typing.specs.Blocks.{broken_in_parts, fits_switch, fits_switch_layer, where_result_typed}
use Rattle.mr_typing.proofs.BrokenInLaws.{broken_in_binary, broken_in_deref, broken_in_fn, broken_in_global, broken_in_int, broken_in_load, broken_in_local, broken_in_raw}
use Rattle.mr_typing.proofs.SameTypeLaws.{same_type_itself}
use Rattle.mr_typing.proofs.TypeLaws.{type_of_binary, type_of_deref, type_of_fn, type_of_global, type_of_int, type_of_load, type_of_local, type_of_raw}
use Rattle.mr_typing.proofs.NothingLaws.{type_nothing}
use Rattle.mr_ast.specs.declared.rule.Rule.TheVariants as form
use Rattle.mr_ast.specs.declared.types.Ty.TheVariants as ty
use Rattle.mr_ast.specs.declared.expr.Place.TheVariants as place
use Rattle.mr_ast.specs.declared.expr.Value.TheVariants as value
use Rattle.mr_ast.specs.declared.program.Intrinsic.TheVariants as intrinsic
use Rattle.mr_ast.specs.declared.program.Stmt.TheVariants as stmt
use Rattle.mr_ast.specs.declared.program.Term.TheVariants as term
use Rattle.mr_gen.proofs.NoFaults.{both_nothing, rule_nothing}

-- ---- types

abbrev Layer : Type 0
Layer = Ty-F Ty Variant

raw_points : is_pointer ty.Raw ≡ true
raw_points = ap (λ (l : Layer). is_raw_layer l || (is_ref_layer l || is_fn_ptr_layer l)) ty.outs-Raw

is_integer_int : (i : IntType) → is_integer (ty.Int i) ≡ true
is_integer_int i = ap (λ (l : Layer). is_some (integer_in l)) (ty.outs-Int i)

pub is_scalar_int : (i : IntType) → is_scalar_number (ty.Int i) ≡ true
is_scalar_int i = ap (λ (l : Layer). is_some (integer_in l) || is_bool_layer l) (ty.outs-Int i)

add_fits : fits_binary Add (ty.Int U64) (ty.Int U64) ≡ true
add_fits = (λ i. is_integer_int U64 i && same_type_itself (ty.Int U64) i)

lt_fits : fits_binary Lt (ty.Int U64) (ty.Int U64) ≡ true
lt_fits = (λ i. (is_scalar_int U64 i || is_raw (ty.Int U64)) && same_type_itself (ty.Int U64) i)

spawn_fits : fits_intrinsic intrinsic.Spawn (ty.FnPtr ∷ ty.Raw ∷ []) (Some (ty.Int U32)) ≡ true
spawn_fits = (λ i. is_fn_ptr_layer (ty.outs-FnPtr i) && (is_raw_layer (ty.outs-Raw i) && same_type_itself (ty.Int U32) i))

-- an intrinsic that takes a number of a lock or a thread
pub acquire_fits : fits_intrinsic intrinsic.Acquire (ty.Int U32 ∷ []) None ≡ true
acquire_fits = (λ i. same_type_itself (ty.Int U32) i && true)

pub release_fits : fits_intrinsic intrinsic.Release (ty.Int U32 ∷ []) None ≡ true
release_fits = (λ i. same_type_itself (ty.Int U32) i && true)

pub join_fits : fits_intrinsic intrinsic.Join (ty.Int U32 ∷ []) None ≡ true
join_fits = (λ i. same_type_itself (ty.Int U32) i && true)

pub print_fits : fits_intrinsic intrinsic.Print (ty.Int U64 ∷ []) None ≡ true
print_fits = (λ i. (is_scalar_int U64 i && true) && true)

-- two parts whose types are known
both_typed : (test : Ty → Ty → Bool) {a b : Option Ty} {t u : Ty} → a ≡ Some t → b ≡ Some u → where_both_typed a b test ≡ test t u
both_typed test x y = (λ i. where_both_typed (x i) (y i) test)

module _ (at : Surroundings) where
  -- a place that has this type and breaks no rule
  pub record SoundPlace (p : Place) (t : Ty) : Type 0 where
    pub unbroken : broken_in_place at p ≡ []
    pub typed : type_of_place at.locals p ≡ Some t

  -- the same of a value
  pub record SoundValue (v : Value) (t : Ty) : Type 0 where
    pub unbroken : broken_in_value at v ≡ []
    pub typed : type_of_value at.locals v ≡ Some t

  -- ---- places and values

  pub sound_local : (x : LocalName) (t : Ty) → option_map (λ (l : Local). l.ty) (slice_get at.locals x.0) ≡ Some t → SoundPlace (place.Local x) t
  sound_local x t e = record { unbroken = broken_in_local at x; typed = type_of_local at.locals x ∙ e }

  pub sound_counter : is_in_global at.sizes 0 0 ≡ true → SoundPlace counter (ty.Int U64)
  sound_counter inside =
      let g : GlobalName = record { 0 = 0 } in
      let v = value.Global g 0 in
      let pointer : broken_in_value at v ≡ [] = broken_in_global at g 0 ∙ rule_nothing form.GlobalRef inside in
      let points : where_typed (type_of_value at.locals v) is_pointer ≡ true = ap (λ (o : Option Ty). where_typed o is_pointer) (type_of_global at.locals g 0) ∙ raw_points in
      record {
        unbroken = broken_in_deref at v (ty.Int U64) ∙ both_nothing (both_nothing pointer (type_nothing (ty.Int U64) (broken_int U64))) (rule_nothing form.Place points);
        typed = type_of_deref at.locals v (ty.Int U64);
      }

  pub sound_int : (i : IntType) (n : ℕ) → is_fitting i (plain_num n) ≡ true → SoundValue (value.Int i (plain_num n)) (ty.Int i)
  sound_int i n fits = record { unbroken = broken_in_int at i (plain_num n) ∙ rule_nothing form.ConstRange fits; typed = type_of_int at.locals i (plain_num n) }

  pub sound_load : (p : Place) (t : Ty) → SoundPlace p t → SoundValue (value.Load p) t
  sound_load p t sound = record { unbroken = broken_in_load at p ∙ sound.unbroken; typed = type_of_load at.locals p ∙ sound.typed }

  -- an operator on what a place holds and a number
  sound_with_number : (op : BinaryOp) (p : Place) (n : ℕ) (r : Ty) → SoundPlace p (ty.Int U64) → nat_lt n (2 ^ 64) ≡ true → fits_binary op (ty.Int U64) (ty.Int U64) ≡ true
      → result_type op (ty.Int U64) ≡ Some r → SoundValue (with_number op p n) r
  sound_with_number op p n r sound below fits gives =
      let a = value.Load p in
      let b = u64_value n in
      let left = sound_load p (ty.Int U64) sound in
      let right = sound_int U64 n below in
      let kept = both_typed (fits_binary op) left.typed right.typed ∙ fits in
      record {
        unbroken = broken_in_binary at op a b ∙ both_nothing (both_nothing left.unbroken right.unbroken) (rule_nothing form.Operand kept);
        typed = type_of_binary at.locals op a b ∙ ap (λ (o : Option Ty). chained o (result_type op)) left.typed ∙ gives;
      }

  -- ---- statements

  pub unbroken_assign : (f : Function) (p : Place) (v : Value) (t : Ty) → SoundPlace p t → SoundValue v t → broken_in_stmt f at (stmt.Assign p v) ≡ []
  unbroken_assign f p v t to from =
      both_nothing (both_nothing to.unbroken from.unbroken) (rule_nothing form.Assign (both_typed same_type to.typed from.typed ∙ same_type_itself t))

  pub unbroken_increment : (f : Function) (p : Place) → SoundPlace p (ty.Int U64) → broken_in_stmt f at (increment p) ≡ []
  unbroken_increment f p sound = unbroken_assign f p (with_number Add p 1) (ty.Int U64) sound (sound_with_number Add p 1 (ty.Int U64) sound refl add_fits refl)

  -- ---- ends

  pub unbroken_test : (p : Place) (n : ℕ) (then_block other : BlockName) → SoundPlace p (ty.Int U64) → nat_lt n (2 ^ 64) ≡ true
      → broken_in_parts at (term.Switch (with_number Lt p n) ((plain_num 1, then_block) ∷ []) other) ≡ []
  unbroken_test p n then_block other sound below =
      let cases : List (Num × BlockName) = (plain_num 1, then_block) ∷ [] in
      let tested = sound_with_number Lt p n ty.Bool sound below lt_fits refl in
      let kept = ap (λ (o : Option Ty). where_typed o (fits_switch cases)) tested.typed ∙ ap (fits_switch_layer cases) ty.outs-Bool in
      both_nothing tested.unbroken (rule_nothing form.Switch kept)

  pub unbroken_action : (op : Intrinsic) (v : Value) (t : Ty) (next : ℕ) → SoundValue v t → fits_intrinsic op (t ∷ []) None ≡ true → broken_in_parts at (action op v next) ≡ []
  unbroken_action op v t next sound fits =
      let kept = ap (λ (o : Option Ty). where_all_typed (o ∷ []) (λ types. where_result_typed at.locals None (fits_intrinsic op types))) sound.typed ∙ fits in
      both_nothing (both_nothing {b = []} (both_nothing {b = []} sound.unbroken refl) refl) (rule_nothing form.Intrinsic kept)

  -- what is made goes to a place
  pub unbroken_spawn : (w : FnName) (next : ℕ) → SoundPlace handle (ty.Int U32) → broken_in_parts at (creation intrinsic.Spawn (value.Fn w ∷ value.Raw 0 ∷ []) next) ≡ []
  unbroken_spawn w next sound =
      let spawned = λ (types : List Ty). where_result_typed at.locals (Some handle) (fits_intrinsic intrinsic.Spawn types) in
      let arguments : where_all_typed (type_of_value at.locals (value.Fn w) ∷ type_of_value at.locals (value.Raw 0) ∷ []) spawned ≡ spawned (ty.FnPtr ∷ ty.Raw ∷ []) =
      (λ i. where_all_typed (type_of_fn at.locals w i ∷ type_of_raw at.locals 0 i ∷ []) spawned) in
      let kept = arguments ∙ ap (λ (o : Option Ty). where_typed o (λ t. fits_intrinsic intrinsic.Spawn (ty.FnPtr ∷ ty.Raw ∷ []) (Some t))) sound.typed ∙ spawn_fits in
      both_nothing (both_nothing (both_nothing (broken_in_fn at w) (both_nothing {b = []} (broken_in_raw at 0) refl)) sound.unbroken) (rule_nothing form.Intrinsic kept)

  pub unbroken_lock : (next : ℕ) → SoundPlace handle (ty.Int U32) → broken_in_parts at (creation intrinsic.CreateLock [] next) ≡ []
  unbroken_lock next sound =
      let kept = ap (λ (o : Option Ty). where_typed o (λ t. fits_intrinsic intrinsic.CreateLock [] (Some t))) sound.typed ∙ same_type_itself (ty.Int U32) in
      both_nothing sound.unbroken (rule_nothing form.Intrinsic kept)
