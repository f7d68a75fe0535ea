-- The names that most proofs of this crate cite, passed on from one place. Declares nothing.
pub use Rattle.std.proofs.Common.{◌*◌, ◌+◌, ◌++◌, ◌-◌, ◌<◌, [], ◌^◌, add-zero, ap, append_assoc, arith, Bool, cond, drop, Err, false, get_or, inl, inr, IsTrue, length, length-append, length-drop, length-take, List, Ok, refl, Result, slice_get, slice_range, Some, subst, suc, sym, take, true, zero, ℕ, ◌∙◌, ◌∷◌, ◌≡◌, ◌≤◌, ◌⊎◌, ⊎_elim}
pub use Rattle.std.proofs.lemmas.Bool.{and_right, both_ways, cases_Bool, cond-false, cond-true, false_from_ne_true}
pub use Rattle.std.proofs.lemmas.Bool.Decides.{nat_tests}
pub use Rattle.std.proofs.lemmas.List.{append-nil, drop-drop, drop_at, take_at}
pub use Rattle.std.specs.List.{AllByRecursion, AllPass, take_while}
pub use Rattle.mr_lex.specs.Bytes.{begins, begins_arrow, begins_comment, ends_arrow, is_blank, is_digit, is_inline, is_letter, is_symbol, is_word_byte}
pub use Rattle.mr_lex.specs.Numbers.{IsFineNumber, number_of}
pub use Rattle.mr_lex.specs.Pieces.{ArePieces, Blank, Comment, IsFine, IsPiece, IsRun, Number, Piece, row_of, spelling_of, Splits, Symbol, Word}
pub use Rattle.mr_lex.specs.Reading.{Gives, is_fine_number}
unfoldable pub use Rattle.mr_lex.specs.Reading.{lexed, number_at, piece_at, split_of, symbol_at}
pub use Rattle.mr_lex.specs.Scanning.{IsOneLine}
pub use Rattle.mr_lex.specs.Spans.{AreBetween, lexeme_in}
pub use Rattle.mr_lex.specs.Tokens.{AreInOrder, fault_at, FirstFault, IsBadByte, IsBadNumber, IsFaulty, Lexeme, lexemes_at, lexemes_from, Lexes, StopsAt}
