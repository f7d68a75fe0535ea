-- The names that most proofs of this crate cite, passed on from one place. Declares nothing.
pub use Rattle.std.proofs.Common.{◌&&◌, ◌+◌, ◌++◌, ◌-◌, ◌<◌, ◌==◌, [], ap, arith, Bool, Bor, bytes_eq, drop, false, get_or, if◌then◌else◌, inl, inr, length, List, map, nat_le, nat_lt, None, not, Option, position, refl, slice_get, slice_index_or, Some, subst, suc, sym, take, true, zero, ◌||◌, ℕ, ◌∙◌, ◌∷◌, ◌≡◌, ◌≤◌}
pub use Rattle.std.proofs.lemmas.List.{append-nil, length-append, length-map}
pub use Rattle.std.specs.List.{AllByRecursion, count_by, flat_map, fold, list_any, position_or_len}
pub use Rattle.mr_ast.proofs.TextsLaws.{length-with_text}
pub use Rattle.mr_ast.specs.Forms.{Word}
pub use Rattle.mr_ast.specs.Scope.{all_names, as_function, as_global, Definitions, function_names, FunctionNames, is_number, item_names, names_of, number_in, used_in, with_text}
unfoldable pub use Rattle.mr_ast.specs.Scope.{each_once, number_of_name}
pub use Rattle.mr_ast.specs.Words.{looked_up, reserved, Texts}
pub use Rattle.mr_words.specs.Brackets.{closes, opens}
pub use Rattle.mr_words.specs.Defined.{function_names_in, text_at}
pub use Rattle.mr_words.specs.Naming.{names_in}
pub use Rattle.mr_words.specs.Places.{numbered, words_of}
unfoldable pub use Rattle.mr_words.specs.Places.{words_from}
