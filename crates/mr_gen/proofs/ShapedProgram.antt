-- The program is shaped, whatever the numbers of workers and rounds.
use Rattle.mr_gen.proofs.Common.{◌≡◌, ℕ, ◌+◌, ◌*◌, ◌<◌, ◌≤◌, ◌^◌, Bool, true, false, [], ◌∷◌, length, All, refl, arith, lt-ltb, nat_lt, All-cons, All-nil, U32, U64, Function, Program, Stmt, advance_block, begin_block, count_block, counter, counter_global, enter_block, exit_block, finish_block, increment, join_block, last_stmts, local, lock_block, main_blocks, main_function, name_texts, print_block, program_with, round, spawn_block, test_block, u32_value, u64_value, unit, worker_blocks, worker_function}
use Rattle.std.proofs.Common.{inl, lit<, lit≤}
use Rattle.mr_ast.specs.declared.types.Ty.{Ty}
use Rattle.mr_ast.specs.declared.program.LocalName.{LocalName}
use Rattle.mr_ast.specs.Shaped.{Shaped, ShapedBlock, ShapedFunction, ShapedGlobal, ShapedItem, ShapedLocal, is_shaped_stmt, named_in}
use Rattle.mr_ast.specs.ShapedTypes.{is_shaped_type}
use Rattle.mr_ast.specs.ShapedValues.{Named}
use Rattle.mr_ast.proofs.ShapedLaws.{shaped_int_type, shaped_raw_type, shaped_tuple_type}
use Rattle.mr_ast.specs.declared.types.Ty.TheVariants as ty
use Rattle.mr_ast.specs.declared.expr.Value.TheVariants as value
use Rattle.mr_ast.specs.declared.program.Intrinsic.TheVariants as intrinsic
use Rattle.mr_ast.specs.declared.program.Item_.TheVariants as item
use Rattle.mr_ast.specs.declared.program.Stmt.TheVariants as stmt
use Rattle.mr_gen.proofs.MainBlocks.{All-main_blocks, length-main_blocks}
use Rattle.mr_gen.proofs.NameLaws.{is_name}
use Rattle.mr_gen.proofs.ShapedParts.{shaped_action, shaped_assign, shaped_counter, shaped_increment, shaped_loaded, shaped_lock, shaped_number, shaped_round, shaped_spawn, shaped_test}

shaped_unit : is_shaped_type unit ≡ true
shaped_unit = shaped_tuple_type 0 1 []

-- what can be named in a worker
abbrev named_worker : Named
named_worker = record { globals = 1; functions = 2; locals = 3; blocks = 6 }

-- what can be named in a main function with so many blocks
abbrev named_main : ℕ → Named
named_main blocks_count = record { globals = 1; functions = 2; locals = 2; blocks = blocks_count }

module _ (workers rounds : ℕ) (resets : Bool) where
  abbrev whole : Program
  whole = program_with workers rounds resets

  abbrev worker : Function
  worker = worker_function rounds resets

  abbrev main : Function
  main = main_function workers

  -- the first fifteen names are there whatever the number of workers
  first_name : (n : ℕ) → n < 15 → n < length (name_texts workers)
  first_name n below = is_name workers n (omega arith)

  -- ---- the worker

  abbrev InWorker : Stmt → Type 0
  InWorker s = is_shaped_stmt (named_in whole worker) s ≡ true

  begin_shaped : ShapedBlock whole worker begin_block
  unfolding worker_function worker_blocks
  begin_shaped =
      let live : Stmt = stmt.Live (record { 0 = 2 }) in
      let none : Stmt = stmt.Assign round (u64_value 0) in
      record {
        name = first_name 5 (lit< tt);
        stmts = All-cons InWorker live (none ∷ []) refl (All-cons InWorker none [] (shaped_assign named_worker round (u64_value 0) (shaped_round named_worker refl) (shaped_number named_worker U64 0 refl)) (All-nil InWorker));
        term = refl;
        few_stmts = lit≤ tt;
      }

  test_shaped : rounds < 2 ^ 64 → ShapedBlock whole worker (test_block rounds)
  unfolding worker_function worker_blocks
  test_shaped few = record {
    name = first_name 6 (lit< tt);
    stmts = All-nil InWorker;
    term = shaped_test named_worker round rounds (record { 0 = 2 }) (record { 0 = 5 }) (shaped_round named_worker refl) (lt-ltb rounds (2 ^ 128) (omega arith)) refl refl;
    few_stmts = lit≤ tt;
  }

  enter_shaped : ShapedBlock whole worker enter_block
  unfolding worker_function worker_blocks
  enter_shaped = record {
    name = first_name 7 (lit< tt);
    stmts = All-nil InWorker;
    term = shaped_action named_worker intrinsic.Acquire (u32_value 0) 3 (shaped_number named_worker U32 0 refl) refl;
    few_stmts = lit≤ tt;
  }

  count_shaped : ShapedBlock whole worker count_block
  unfolding worker_function worker_blocks
  count_shaped = record {
    name = first_name 8 (lit< tt);
    stmts = All-cons InWorker (increment counter) [] (shaped_increment named_worker counter (shaped_counter named_worker refl)) (All-nil InWorker);
    term = shaped_action named_worker intrinsic.Release (u32_value 0) 4 (shaped_number named_worker U32 0 refl) refl;
    few_stmts = lit≤ tt;
  }

  advance_shaped : ShapedBlock whole worker advance_block
  unfolding worker_function worker_blocks
  advance_shaped = record {
    name = first_name 9 (lit< tt);
    stmts = All-cons InWorker (increment round) [] (shaped_increment named_worker round (shaped_round named_worker refl)) (All-nil InWorker);
    term = refl;
    few_stmts = lit≤ tt;
  }

  last_shaped : (b : Bool) → All InWorker (last_stmts b)
  unfolding worker_function worker_blocks
  last_shaped false = All-cons InWorker (stmt.Dead (record { 0 = 2 })) [] refl (All-nil InWorker)
  last_shaped true =
      let dead : Stmt = stmt.Dead (record { 0 = 2 }) in
      let reset : Stmt = stmt.Assign counter (u64_value 0) in
      All-cons InWorker reset (dead ∷ []) (shaped_assign named_worker counter (u64_value 0) (shaped_counter named_worker refl) (shaped_number named_worker U64 0 refl)) (All-cons InWorker dead [] refl (All-nil InWorker))

  last_few : (b : Bool) → length (last_stmts b) ≤ 4096
  last_few false = lit≤ tt
  last_few true = lit≤ tt

  finish_shaped : ShapedBlock whole worker (finish_block resets)
  finish_shaped = record { name = first_name 10 (lit< tt); stmts = last_shaped resets; term = refl; few_stmts = last_few resets }

  worker_blocks_shaped : rounds < 2 ^ 64 → All (ShapedBlock whole worker) (worker_blocks rounds resets)
  unfolding worker_blocks
  worker_blocks_shaped few =
      let P = ShapedBlock whole worker in
      let from5 = All-cons P (finish_block resets) [] finish_shaped (All-nil P) in
      let from4 = All-cons P advance_block (finish_block resets ∷ []) advance_shaped from5 in
      let from3 = All-cons P count_block (advance_block ∷ finish_block resets ∷ []) count_shaped from4 in
      let from2 = All-cons P enter_block (count_block ∷ advance_block ∷ finish_block resets ∷ []) enter_shaped from3 in
      let from1 = All-cons P (test_block rounds) (enter_block ∷ count_block ∷ advance_block ∷ finish_block resets ∷ []) (test_shaped few) from2 in
      All-cons P begin_block (test_block rounds ∷ enter_block ∷ count_block ∷ advance_block ∷ finish_block resets ∷ []) begin_shaped from1

  -- a local of one of the first names
  local_shaped : (n : ℕ) (t : Ty) → n < 15 → is_shaped_type t ≡ true → ShapedLocal whole (local n t)
  local_shaped n t below shaped = record { name = first_name n below; ty = shaped }

  worker_shaped : rounds < 2 ^ 64 → ShapedFunction whole worker
  unfolding worker_function worker_blocks
  worker_shaped few =
      let L = ShapedLocal whole in
      let number = All-cons L (local 4 (ty.Int U64)) [] (local_shaped 4 (ty.Int U64) (lit< tt) (shaped_int_type U64)) (All-nil L) in
      let nothing = All-cons L (local 3 unit) (local 4 (ty.Int U64) ∷ []) (local_shaped 3 unit (lit< tt) shaped_unit) number in
      let IsLocal : LocalName → Type 0 = λ x. x.0 < 3 in
      record {
        name = first_name 1 (lit< tt);
        args = All-cons IsLocal (record { 0 = 0 }) [] (lit< tt) (All-nil IsLocal);
        ret = lit< tt;
        locals = All-cons L (local 2 ty.Raw) (local 3 unit ∷ local 4 (ty.Int U64) ∷ []) (local_shaped 2 ty.Raw (lit< tt) shaped_raw_type) nothing;
        blocks = worker_blocks_shaped few;
        has_start = lit< tt;
        few_locals = lit≤ tt;
        few_blocks = lit≤ tt;
      }

  -- ---- the main function

  abbrev InMain : Stmt → Type 0
  InMain s = is_shaped_stmt (named_in whole main) s ≡ true

  abbrev named : Named
  named = named_main (length (main_blocks workers))

  -- the block of this number is there
  there : (n : ℕ) → n < 3 + 2 * workers → nat_lt n (length (main_blocks workers)) ≡ true
  there n below = lt-ltb n (length (main_blocks workers)) (omega (arith, length-main_blocks workers))

  lock_shaped : ShapedBlock whole main lock_block
  unfolding main_function
  lock_shaped = record {
    name = first_name 5 (lit< tt);
    stmts = All-cons InMain (stmt.Live (record { 0 = 1 })) [] refl (All-nil InMain);
    term = shaped_lock named 1 refl (there 1 (omega arith));
    few_stmts = lit≤ tt;
  }

  spawn_shaped : (k : ℕ) → k ≤ workers → ShapedBlock whole main (spawn_block k)
  unfolding main_function
  spawn_shaped k high = record {
    name = is_name workers (12 + k) (omega arith);
    stmts = All-nil InMain;
    term = shaped_spawn named (record { 0 = 0 }) (k + 1) refl refl (there (k + 1) (omega arith));
    few_stmts = lit≤ tt;
  }

  join_shaped : workers ≤ 8 → (k : ℕ) → k ≤ workers → ShapedBlock whole main (join_block workers k)
  unfolding main_function
  join_shaped few k high = record {
    name = is_name workers (12 + workers + k) (omega arith);
    stmts = All-nil InMain;
    term = shaped_action named intrinsic.Join (u32_value k) (workers + k + 1) (shaped_number named U32 k (lt-ltb k (2 ^ 128) (omega arith))) (there (workers + k + 1) (omega arith));
    few_stmts = lit≤ tt;
  }

  print_shaped : ShapedBlock whole main (print_block workers)
  unfolding main_function
  print_shaped = record {
    name = is_name workers (13 + 2 * workers) (omega arith);
    stmts = All-nil InMain;
    term = shaped_action named intrinsic.Print (value.Load counter) (2 * workers + 2) (shaped_loaded named counter (shaped_counter named refl)) (there (2 * workers + 2) (omega arith));
    few_stmts = lit≤ tt;
  }

  exit_shaped : ShapedBlock whole main (exit_block workers)
  exit_shaped = record { name = is_name workers (14 + 2 * workers) (omega arith); stmts = All-nil InMain; term = refl; few_stmts = lit≤ tt }

  main_shaped : workers ≤ 8 → ShapedFunction whole main
  unfolding main_function
  main_shaped few =
      let L = ShapedLocal whole in
      let number = All-cons L (local 12 (ty.Int U32)) [] (local_shaped 12 (ty.Int U32) (lit< tt) (shaped_int_type U32)) (All-nil L) in
      record {
        name = first_name 11 (lit< tt);
        args = All-nil (λ (x : LocalName). x.0 < 2);
        ret = lit< tt;
        locals = All-cons L (local 3 unit) (local 12 (ty.Int U32) ∷ []) (local_shaped 3 unit (lit< tt) shaped_unit) number;
        blocks = All-main_blocks (ShapedBlock whole main) workers lock_shaped (λ k low high. spawn_shaped k high) (λ k low high. join_shaped few k high) print_shaped exit_shaped;
        has_start = omega (arith, length-main_blocks workers);
        few_locals = lit≤ tt;
        few_blocks = omega (arith, length-main_blocks workers);
      }

  -- ---- the program

  global_shaped : ShapedGlobal whole counter_global
  global_shaped = record {
    name = first_name 0 (lit< tt);
    align = lit< tt;
    items = All-cons (ShapedItem whole) (item.Byte 0 8) [] (lit≤ tt, record { some = lit≤ tt; bounded = lit≤ tt }) (All-nil (ShapedItem whole));
  }

  pub program_shaped : workers ≤ 8 → rounds < 2 ^ 64 → Shaped whole
  program_shaped few short = record {
    edition = inl refl;
    globals = All-cons (ShapedGlobal whole) counter_global [] global_shaped (All-nil (ShapedGlobal whole));
    functions = All-cons (ShapedFunction whole) worker (main ∷ []) (worker_shaped short) (All-cons (ShapedFunction whole) main [] (main_shaped few) (All-nil (ShapedFunction whole)));
    start = lit< tt;
    few_globals = lit≤ tt;
    few_functions = lit≤ tt;
  }
