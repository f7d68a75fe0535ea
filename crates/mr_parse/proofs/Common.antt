-- The names that most proofs of this crate cite, passed on from one place. Declares nothing.
pub use Rattle.std.proofs.Common.{◌*◌, ◌+◌, ◌-◌, ◌<◌, [], ap, arith, Bool, codes, Err, false, List, Ok, refl, Result, subst, suc, sym, true, zero, ℕ, ◌∙◌, ◌∷◌, ◌≡◌, ◌≤◌}
pub use Rattle.std.proofs.lemmas.Result.{err_from_is_err_and}
pub use Rattle.mr_ast.specs.Forms.{Part, Word}
pub use Rattle.mr_ast.specs.ProgramGrammar.{begins_stmt}
unfoldable pub use Rattle.mr_ast.specs.ProgramGrammar.{args_form, block_form, blocks_form, body_form, function_form, functions_form, global_form, globals_form, item_form, items_form, local_form, locals_form, stmt_form, stmts_form, switch_case_form, switch_cases_form, values_form}
pub use Rattle.mr_ast.specs.Scope.{Scope}
unfoldable pub use Rattle.mr_ast.specs.TypeGrammar.{case_form, cases_form, chunk_form, chunks_form, field_form, fields_form, tag_form, tags_form, variant_form, variants_form}
pub use Rattle.mr_ast.specs.Writing.{is_word, local_use, other_than, TheValue, ◌▸◌}
pub use Rattle.mr_grammar.specs.Parsing.{whole_of}
unfoldable pub use Rattle.mr_grammar.specs.Parsing.{program_in}
pub use Rattle.mr_grammar.specs.Reading.{◌>>=◌, expected, is_next, read, read_outside, Reads}
unfoldable pub use Rattle.mr_grammar.specs.Reading.{many_at}
pub use Rattle.mr_words.specs.Places.{words_of}
pub use Rattle.mr_words.specs.declared.fault.Stop.{Stop}
pub use Rattle.mr_parse.specs.Postfixes.{with_all}
pub use Rattle.mr_parse.specs.ReaderGives.{Fails, Gives}
