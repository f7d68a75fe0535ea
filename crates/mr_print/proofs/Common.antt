-- The names that most proofs of this crate cite, passed on from one place. Declares nothing.
pub use Rattle.std.proofs.Common.{◌++◌, [], ap, arith, codes, decimal, flat_map, length, List, map, take, ℕ, ◌∙◌, ◌∷◌, ◌≡◌}
pub use Rattle.mr_ast.specs.Canon.{argument_words, local_words, stmt_line, target_words, texts_in}
unfoldable pub use Rattle.mr_ast.specs.Canon.{block_lines, function_lines, global_line, words_of_item, words_of_term}
pub use Rattle.mr_ast.specs.CanonTypes.{case_words, chunk_words, field_words, int_word, tag_words, variant_words, with_commas}
unfoldable pub use Rattle.mr_ast.specs.CanonTypes.{words_of_type}
unfoldable pub use Rattle.mr_ast.specs.CanonValues.{words_of_value}
unfoldable pub use Rattle.mr_print.specs.Appends.{with_last, with_line, with_lines, with_word, with_words}
