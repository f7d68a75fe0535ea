-- The names that most proofs of this crate cite, passed on from one place. Declares nothing.
pub use Rattle.std.proofs.Common.{◌+◌, ◌++◌, ◌-◌, ◌<◌, [], ap, arith, Bool, bytes_eq, codes, drop, false, if◌then◌else◌, length, List, map, nat_le, None, Option, refl, slice_get, Some, subst, suc, sym, take, true, zero, ℕ, ◌∙◌, ◌∷◌, ◌≡◌}
pub use Rattle.std.proofs.lemmas.List.{append_assoc, map-append}
pub use Rattle.std.specs.Option.{option_map}
pub use Rattle.mr_ast.specs.Forms.{Cases, EachSpelled, Either, Mark, Word}
pub use Rattle.mr_ast.specs.ProgramGrammar.{inside_function, stmt_behind, term_behind}
unfoldable pub use Rattle.mr_ast.specs.ProgramGrammar.{args_form, assign_form, block_form, function_form, globals_form, judged_edition, judged_kind, locals_form, stmt_form, term_form}
pub use Rattle.mr_ast.specs.Scope.{Scope}
pub use Rattle.mr_ast.specs.Spelled.{form_of, Spelled}
unfoldable pub use Rattle.mr_ast.specs.Spelled.{SpelledInside}
pub use Rattle.mr_ast.specs.Writing.{Kind, name_form, token, word, Writing, ◌◂◌}
pub use Rattle.mr_ast.specs.declared.program.Block.{Block}
pub use Rattle.mr_ast.specs.declared.program.Function.{Function}
pub use Rattle.mr_places.specs.Laid.{ends_from, firsts_of, firsts_of_blocks, spot_at, spot_of}
pub use Rattle.mr_places.specs.Places.{behind, ends_before, ends_of_block, ends_of_blocks, ends_of_function, ends_of_functions, from_place, is_end, words_of_head}
