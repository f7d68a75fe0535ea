-- The names that most proofs of this crate cite, passed on from one place. Declares nothing.
pub use Rattle.std.proofs.Common.{◌&&◌, ◌+◌, ◌++◌, ◌-◌, ◌<◌, ◌==◌, [], ◌^◌, ap, append_assoc, arith, Bool, bytes_eq, codes, decimal, Err, false, flat_map, if◌then◌else◌, inl, inr, IsTrue, length, length-append, List, map, nat_le, nat_lt, None, not, Ok, Option, option_map, refl, Result, Some, subst, suc, sym, true, zero, ◌||◌, ℕ, ◌∙◌, ◌∷◌, ◌≡◌, ◌≤◌, ◌⊎◌}
pub use Rattle.std.proofs.lemmas.Bool.{and_parts}
pub use Rattle.std.proofs.lemmas.Bool.Decides.{nat_tests}
pub use Rattle.std.proofs.lemmas.List.{append-nil, length-map, map-append, nil_from_length}
pub use Rattle.std.proofs.lemmas.List.Elements.{All-from_recursion}
pub use Rattle.std.proofs.lemmas.Slice.Eq.{bytes_eq-Decides}
pub use Rattle.std.specs.List.{AllByRecursion, fold, list_all}
pub use Rattle.mr_ast.proofs.WordLaws.{edition_found, int_word_found}
pub use Rattle.mr_ast.specs.Canon.{function_texts, global_texts, local_texts, stmt_line, target_text, term_line, texts_in}
unfoldable pub use Rattle.mr_ast.specs.Canon.{lines_of, words_of_item}
pub use Rattle.mr_ast.specs.CanonTypes.{int_word, num_words, with_commas}
pub use Rattle.mr_ast.specs.CanonValues.{NameTexts, text_at}
unfoldable pub use Rattle.mr_ast.specs.CanonValues.{words_of_place, words_of_value}
pub use Rattle.mr_ast.specs.Forms.{Cases, closing, EachSpelled, Either, Empty, Form, In, Many, Mark, opening, Part, SpelledBy, Spelling, Then, Within, Word}
pub use Rattle.mr_ast.specs.ProgramGrammar.{begins_stmt, intrinsic_form, item_behind, item_word_of, ProgramBody, stmt_behind, term_behind}
unfoldable pub use Rattle.mr_ast.specs.ProgramGrammar.{args_form, assign_form, block_form, blocks_form, body_form, call_form, do_form, function_form, functions_form, global_form, globals_form, item_form, items_form, judged_edition, judged_intrinsic, judged_item, judged_kind, judged_stmt, judged_term, local_form, locals_form, numbered_form, program_form, reloc_form, repeat_form, stmt_form, stmts_form, switch_case_form, switch_cases_form, switch_form, term_form, unwind_form, values_form}
pub use Rattle.mr_ast.specs.Scope.{all_names, defined_in, Definitions, function_names, item_names, name_number, name_target, names_of, number_in, Scope, target_of, used_in}
unfoldable pub use Rattle.mr_ast.specs.Scope.{number_of_name}
pub use Rattle.mr_ast.specs.Shaped.{is_local, IsRepeat, named_in, ShapedBlock, ShapedFunction}
pub use Rattle.mr_ast.specs.ShapedTypes.{fits_u64, is_shaped_num}
pub use Rattle.mr_ast.specs.ShapedValues.{Named}
unfoldable pub use Rattle.mr_ast.specs.ShapedValues.{is_shaped_place, is_shaped_value}
pub use Rattle.mr_ast.specs.Spelled.{form_of, NoPart, Spelled, SpelledPart}
unfoldable pub use Rattle.mr_ast.specs.Spelled.{SpelledInside}
pub use Rattle.mr_ast.specs.TypeGrammar.{tree_behind, type_behind, type_word_of}
unfoldable pub use Rattle.mr_ast.specs.TypeGrammar.{array_form, branch_form, case_form, cases_form, chunk_form, chunks_form, enum_form, field_form, fields_form, judged_tree, judged_type, ref_form, shape_form, tag_form, tags_form, tree_form, tuple_type_form, type_form, union_type_form, variant_form, variants_form}
pub use Rattle.mr_ast.specs.ValueGrammar.{begins_postfix, ByField, ByIndex, ByVariant, Postfix, value_behind, with_postfix}
unfoldable pub use Rattle.mr_ast.specs.ValueGrammar.{addr_of_form, base_form, binary_form, cast_form, deref_form, global_value_form, judged_value, more_values_form, place_from, postfix_form, postfixes_form, transmute_form, tuple_value_form, union_value_form, value_form, variant_value_form}
pub use Rattle.mr_ast.specs.Words.{edition_words, int_words, intrinsic_words, kind_words, looked_up, stmt_words, Table, term_words, Texts, value_of}
unfoldable pub use Rattle.mr_ast.specs.Words.{is_name, is_number}
pub use Rattle.mr_ast.specs.Writing.{block_use, fine, function_use, giving, global_use, int_form, is_word, Judged, judged_number, Kind, limit, limited_word, listed, local_use, Meaning, name_form, num_form, optional, other_than, separated, target_use, ThePlace, TheTree, TheType, TheValue, token, u64_form, word, Writing, ◌▪◌, ◌▸◌, ◌◂◌}
unfoldable pub use Rattle.mr_ast.specs.Writing.{judged_any, judged_int, judged_name, judged_positive, judged_repeat, judged_target, judged_u64}
pub use Rattle.mr_ast.specs.declared.program.Block.{Block}
pub use Rattle.mr_ast.specs.declared.program.Function.{Function}
pub use Rattle.mr_ast.specs.declared.program.Global_.{Global_}
pub use Rattle.mr_ast.specs.declared.program.Local.{Local}
pub use Rattle.mr_ast.specs.declared.program.Program.{Program}
pub use Rattle.mr_ast.specs.declared.program.Target.{Target}
pub use Rattle.mr_ast.specs.declared.words.Bracket.{Bracket}
pub use Rattle.mr_ast.specs.declared.words.Bracket.TheVariants.{Curly, Round, Square}
pub use Rattle.mr_ast.specs.declared.words.ItemWord.{ItemWord}
pub use Rattle.mr_ast.specs.declared.words.Role.{Role}
pub use Rattle.mr_ast.specs.declared.words.Role.TheVariants.{DefinesBlock, DefinesFunction, DefinesGlobal, DefinesLocal, UsesBlock, UsesFunction, UsesGlobal, UsesLocal}
pub use Rattle.mr_ast.specs.declared.words.StmtWord.{StmtWord}
pub use Rattle.mr_ast.specs.declared.words.TermWord.{TermWord}
pub use Rattle.mr_ast.specs.declared.words.TreeWord.{TreeWord}
pub use Rattle.mr_ast.specs.declared.words.TypeWord.{TypeWord}
pub use Rattle.mr_ast.specs.declared.words.ValueWord.{ValueWord}
pub use Rattle.mr_lex.specs.Pieces.{Blank, IsPiece, IsSymbol, Number, Piece, spelling_of, Symbol}
pub use Rattle.mr_lex.specs.Tokens.{Lexeme, lexemes_at, lexemes_from}
pub use Rattle.mr_words.proofs.BaseComparisons.{eq_from, le_from, lt_from, lt_test}
pub use Rattle.mr_words.proofs.BaseOptions.{some_is}
pub use Rattle.mr_words.proofs.PlaceLaws.{StandsIn, words_stand}
pub use Rattle.mr_words.proofs.ScopeLaws.{named_at, number_within, scope_at, use_block, use_function, use_global, use_local}
pub use Rattle.mr_words.specs.Defined.{function_names_in, knowing, unknown}
pub use Rattle.mr_words.specs.Places.{numbered, words_of}
pub use Rattle.mr_words.specs.declared.fault.Stop.{Stop}
pub use Rattle.mr_grammar.specs.Denotes.{definitions_in, Denotes, IsFine, program_of, words_in, Writes}
pub use Rattle.mr_grammar.specs.Reading.{◌>>=◌, expected, is_next, no_part, opened, read, read_by, Reading, Reads, stop, taken}
unfoldable pub use Rattle.mr_grammar.specs.Reading.{many_at, read_inside, read_part}
