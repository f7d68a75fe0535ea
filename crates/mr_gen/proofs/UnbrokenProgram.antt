-- The worker and the main function break no rule, whatever the numbers of workers and rounds.
use Rattle.mr_gen.proofs.Common.{◌≡◌, ℕ, ◌+◌, ◌*◌, ◌<◌, ◌≤◌, ◌^◌, Bool, true, false, [], ◌∷◌, All, refl, arith, lt-ltb, All-cons, All-nil, U32, U64, Function, Local, Program, Stmt, broken_in_stmt, goes_to, Surroundings, sizes_of, surroundings, advance_block, begin_block, count_block, counter, counter_global, enter_block, exit_block, finish_block, handle, increment, join_block, last_stmts, local, lock_block, main_blocks, main_function, print_block, program_with, round, spawn_block, test_block, u32_value, u64_value, unit, worker_blocks, worker_function}
use Rattle.std.specs.Int.Count.{ones}
use Rattle.mr_ast.specs.declared.program.BlockKind.TheVariants.{Regular}
use Rattle.mr_ast.specs.declared.program.Item_.{Item_}
use Rattle.mr_layout.specs.Rules.{tuple_rules}
use Rattle.mr_layout.specs.TypeOk.{TypeOk}
use Rattle.mr_layout.proofs.BrokenLaws.{broken_int, broken_raw, broken_tuple}
use Rattle.mr_typing.specs.Unbroken.{UnbrokenBlock, UnbrokenFunction, UnbrokenGlobal, UnbrokenProgram}
use Rattle.mr_typing.specs.Walk.{is_target}
use Rattle.mr_gen.specs.Generated.{main_locals, worker_locals}
use Rattle.mr_ast.specs.declared.types.Ty.TheVariants as ty
use Rattle.mr_ast.specs.declared.expr.Value.TheVariants as value
use Rattle.mr_ast.specs.declared.program.Intrinsic.TheVariants as intrinsic
use Rattle.mr_ast.specs.declared.program.Item_.TheVariants as item
use Rattle.mr_ast.specs.declared.program.Stmt.TheVariants as stmt
use Rattle.mr_gen.proofs.MainBlocks.{All-main_blocks, all_regular, goes_regular, length-main_blocks}
use Rattle.mr_gen.proofs.UnbrokenParts.{SoundPlace, acquire_fits, join_fits, print_fits, release_fits, sound_counter, sound_int, sound_load, sound_local, unbroken_action, unbroken_assign, unbroken_increment, unbroken_lock, unbroken_spawn, unbroken_test}

-- a unit breaks no rule of types
unit_ok : TypeOk unit
unfolding tuple_rules ones
unit_ok = broken_tuple 0 1 []

-- the local of this type breaks none
abbrev LocalOk : Local → Type 0
LocalOk l = TypeOk l.ty

-- ---- the worker

-- what a worker's expressions may speak of
abbrev in_worker : Surroundings
in_worker = record { sizes = 8 ∷ []; locals = worker_locals }

sound_round : SoundPlace in_worker round (ty.Int U64)
sound_round = sound_local in_worker (record { 0 = 2 }) (ty.Int U64) refl

module _ (workers rounds : ℕ) (resets : Bool) where
  abbrev made : Program
  made = program_with workers rounds resets

  abbrev worker : Function
  worker = worker_function rounds resets

  abbrev Keeps : Stmt → Type 0
  Keeps s = broken_in_stmt worker (surroundings made worker) s ≡ []

  begin_unbroken : UnbrokenBlock made worker begin_block
  unfolding worker_function worker_blocks
  begin_unbroken =
      let live : Stmt = stmt.Live (record { 0 = 2 }) in
      let none : Stmt = stmt.Assign round (u64_value 0) in
      record {
        stmts = All-cons Keeps live (none ∷ []) refl (All-cons Keeps none [] (unbroken_assign in_worker worker round (u64_value 0) (ty.Int U64) sound_round (sound_int in_worker U64 0 refl)) (All-nil Keeps));
        parts = refl;
        allowed = refl;
      }

  test_unbroken : rounds < 2 ^ 64 → UnbrokenBlock made worker (test_block rounds)
  unfolding worker_function worker_blocks
  test_unbroken few = record {
    stmts = All-nil Keeps;
    parts = unbroken_test in_worker round rounds (record { 0 = 2 }) (record { 0 = 5 }) sound_round (lt-ltb rounds (2 ^ 64) few);
    allowed = refl;
  }

  enter_unbroken : UnbrokenBlock made worker enter_block
  unfolding worker_function worker_blocks
  enter_unbroken = record {
    stmts = All-nil Keeps;
    parts = unbroken_action in_worker intrinsic.Acquire (u32_value 0) (ty.Int U32) 3 (sound_int in_worker U32 0 refl) acquire_fits;
    allowed = refl;
  }

  count_unbroken : UnbrokenBlock made worker count_block
  unfolding worker_function worker_blocks
  count_unbroken = record {
    stmts = All-cons Keeps (increment counter) [] (unbroken_increment in_worker worker counter (sound_counter in_worker refl)) (All-nil Keeps);
    parts = unbroken_action in_worker intrinsic.Release (u32_value 0) (ty.Int U32) 4 (sound_int in_worker U32 0 refl) release_fits;
    allowed = refl;
  }

  advance_unbroken : UnbrokenBlock made worker advance_block
  unfolding worker_function worker_blocks
  advance_unbroken = record {
    stmts = All-cons Keeps (increment round) [] (unbroken_increment in_worker worker round sound_round) (All-nil Keeps);
    parts = refl;
    allowed = refl;
  }

  last_unbroken : (b : Bool) → All Keeps (last_stmts b)
  unfolding worker_function worker_blocks
  last_unbroken false = All-cons Keeps (stmt.Dead (record { 0 = 2 })) [] refl (All-nil Keeps)
  last_unbroken true =
      let dead : Stmt = stmt.Dead (record { 0 = 2 }) in
      let reset : Stmt = stmt.Assign counter (u64_value 0) in
      All-cons Keeps reset (dead ∷ []) (unbroken_assign in_worker worker counter (u64_value 0) (ty.Int U64) (sound_counter in_worker refl) (sound_int in_worker U64 0 refl)) (All-cons Keeps dead [] refl (All-nil Keeps))

  finish_unbroken : UnbrokenBlock made worker (finish_block resets)
  unfolding worker_function worker_blocks
  finish_unbroken = record { stmts = last_unbroken resets; parts = refl; allowed = refl }

  worker_unbroken : rounds < 2 ^ 64 → UnbrokenFunction made worker
  unfolding worker_function worker_blocks
  worker_unbroken few =
      let P = UnbrokenBlock made worker in
      let from5 = All-cons P (finish_block resets) [] finish_unbroken (All-nil P) in
      let from4 = All-cons P advance_block (finish_block resets ∷ []) advance_unbroken from5 in
      let from3 = All-cons P count_block (advance_block ∷ finish_block resets ∷ []) count_unbroken from4 in
      let from2 = All-cons P enter_block (count_block ∷ advance_block ∷ finish_block resets ∷ []) enter_unbroken from3 in
      let from1 = All-cons P (test_block rounds) (enter_block ∷ count_block ∷ advance_block ∷ finish_block resets ∷ []) (test_unbroken few) from2 in
      let from0 = All-cons P begin_block (test_block rounds ∷ enter_block ∷ count_block ∷ advance_block ∷ finish_block resets ∷ []) begin_unbroken from1 in
      let number = All-cons LocalOk (local 4 (ty.Int U64)) [] (broken_int U64) (All-nil LocalOk) in
      let nothing = All-cons LocalOk (local 3 unit) (local 4 (ty.Int U64) ∷ []) unit_ok number in
      record {
        locals = All-cons LocalOk (local 2 ty.Raw) (local 3 unit ∷ local 4 (ty.Int U64) ∷ []) broken_raw nothing;
        args = refl;
        first = refl;
        blocks = from0;
      }

-- ---- the main function

-- what the main function's expressions may speak of
abbrev in_main : Surroundings
in_main = record { sizes = 8 ∷ []; locals = main_locals }

sound_handle : SoundPlace in_main handle (ty.Int U32)
sound_handle = sound_local in_main (record { 0 = 1 }) (ty.Int U32) refl

module _ (workers rounds : ℕ) (resets : Bool) where
  abbrev whole : Program
  whole = program_with workers rounds resets

  abbrev main : Function
  main = main_function workers

  abbrev KeepsMain : Stmt → Type 0
  KeepsMain s = broken_in_stmt main (surroundings whole main) s ≡ []

  -- each block may be gone to
  goes : (n : ℕ) → n < 3 + 2 * workers → goes_to main Regular (record { 0 = n }) ≡ true
  unfolding main_function
  goes n below = goes_regular main n (all_regular workers) (omega (arith, length-main_blocks workers))

  lock_unbroken : UnbrokenBlock whole main lock_block
  unfolding main_function
  lock_unbroken = record {
    stmts = All-cons KeepsMain (stmt.Live (record { 0 = 1 })) [] refl (All-nil KeepsMain);
    parts = unbroken_lock in_main 1 sound_handle;
    allowed = goes 1 (omega arith);
  }

  spawn_unbroken : (k : ℕ) → k ≤ workers → UnbrokenBlock whole main (spawn_block k)
  unfolding main_function
  spawn_unbroken k high = record {
    stmts = All-nil KeepsMain;
    parts = unbroken_spawn in_main (record { 0 = 0 }) (k + 1) sound_handle;
    allowed = goes (k + 1) (omega arith);
  }

  join_unbroken : workers ≤ 8 → (k : ℕ) → k ≤ workers → UnbrokenBlock whole main (join_block workers k)
  unfolding main_function
  join_unbroken few k high = record {
    stmts = All-nil KeepsMain;
    parts = unbroken_action in_main intrinsic.Join (u32_value k) (ty.Int U32) (workers + k + 1) (sound_int in_main U32 k (lt-ltb k (2 ^ 32) (omega arith))) join_fits;
    allowed = goes (workers + k + 1) (omega arith);
  }

  print_unbroken : UnbrokenBlock whole main (print_block workers)
  unfolding main_function
  print_unbroken = record {
    stmts = All-nil KeepsMain;
    parts = unbroken_action in_main intrinsic.Print (value.Load counter) (ty.Int U64) (2 * workers + 2) (sound_load in_main counter (ty.Int U64) (sound_counter in_main refl)) print_fits;
    allowed = goes (2 * workers + 2) (omega arith);
  }

  exit_unbroken : UnbrokenBlock whole main (exit_block workers)
  exit_unbroken = record { stmts = All-nil KeepsMain; parts = refl; allowed = refl }

  main_unbroken : workers ≤ 8 → UnbrokenFunction whole main
  unfolding main_function main_blocks
  main_unbroken few = record {
    locals = All-cons LocalOk (local 3 unit) (local 12 (ty.Int U32) ∷ []) unit_ok (All-cons LocalOk (local 12 (ty.Int U32)) [] (broken_int U32) (All-nil LocalOk));
    args = refl;
    first = refl;
    blocks = All-main_blocks (UnbrokenBlock whole main) workers lock_unbroken (λ k low high. spawn_unbroken k high) (λ k low high. join_unbroken few k high) print_unbroken exit_unbroken;
  }

  -- ---- the program

  global_unbroken : UnbrokenGlobal whole counter_global
  unfolding ones
  global_unbroken = record {
    form = refl;
    targets = All-cons (λ (i : Item_). is_target (sizes_of whole.globals) i ≡ true) (item.Byte 0 8) [] refl (All-nil (λ (i : Item_). is_target (sizes_of whole.globals) i ≡ true));
  }

  pub program_unbroken : workers ≤ 8 → rounds < 2 ^ 64 → UnbrokenProgram whole
  unfolding main_function
  program_unbroken few short = record {
    globals = All-cons (UnbrokenGlobal whole) counter_global [] global_unbroken (All-nil (UnbrokenGlobal whole));
    functions = All-cons (UnbrokenFunction whole) (worker_function rounds resets) (main ∷ []) (worker_unbroken workers rounds resets short) (All-cons (UnbrokenFunction whole) main [] (main_unbroken few) (All-nil (UnbrokenFunction whole)));
    main = refl;
  }
