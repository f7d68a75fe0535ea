-- The names that most proofs of this crate cite, passed on from one place. Declares nothing.
pub use Rattle.std.proofs.Common.{◌&&◌, ◌*◌, ◌+◌, ◌++◌, ◌-◌, ◌<◌, [], ◌^◌, All, ap, arith, Bool, codes, decimal, false, length, length-append, List, lt-ltb, map, nat_lt, None, Option, refl, Some, suc, sym, true, zero, ℕ, ◌∙◌, ◌∷◌, ◌≡◌, ◌≤◌}
pub use Rattle.std.proofs.lemmas.List.Elements.{All-cons, All-nil}
pub use Rattle.std.specs.List.{fold, range_with_len}
pub use Rattle.mr_ast.specs.Scope.{with_text}
pub use Rattle.mr_ast.specs.declared.program.BlockName.{BlockName}
pub use Rattle.mr_ast.specs.declared.program.Function.{Function}
pub use Rattle.mr_ast.specs.declared.program.Local.{Local}
pub use Rattle.mr_ast.specs.declared.program.Program.{Program}
pub use Rattle.mr_ast.specs.declared.program.Stmt.{Stmt}
pub use Rattle.mr_ast.specs.declared.types.IntType.TheVariants.{U32, U64}
pub use Rattle.mr_typing.specs.Blocks.{broken_in_stmt, goes_to}
pub use Rattle.mr_typing.specs.Broken.{sizes_of, Surroundings, surroundings}
pub use Rattle.mr_gen.specs.Generated.{action, advance_block, begin_block, count_block, counted_texts, counter, counter_global, creation, enter_block, exit_block, finish_block, first_texts, handle, increment, is_resetting, join_block, last_stmts, local, lock_block, plain_num, print_block, program_with, round, rounds_of, spawn_block, test_block, u32_value, u64_value, unit, with_number, workers_of}
unfoldable pub use Rattle.mr_gen.specs.Generated.{generated, main_blocks, main_function, name_texts, worker_blocks, worker_function}
