-- Rows of pieces, and their lexemes.
use Rattle.mr_lex.proofs.Common.{◌≡◌, ℕ, ◌+◌, ◌-◌, ◌≤◌, List, [], ◌∷◌, ◌++◌, length, take, drop, refl, sym, ap, ◌∙◌, subst, arith, append_assoc, length-append, length-drop, add-zero, slice_range, AllByRecursion, append-nil, drop-drop, drop_at, take_at, Piece, Blank, Comment, Word, Number, Symbol, spelling_of, IsPiece, IsFine, row_of, ArePieces, Splits, Lexeme, lexemes_at, lexemes_from, AreInOrder, Lexes}

-- one more piece at the end of a row
row_of-push : (pieces : List Piece) (piece : Piece) (rest : List ℕ) → row_of (pieces ++ piece ∷ []) rest ≡ row_of pieces (spelling_of piece ++ rest)
row_of-push [] piece rest = refl
row_of-push (first ∷ pieces) piece rest = ap (λ bytes. spelling_of first ++ bytes) (row_of-push pieces piece rest)

are_pieces_push : (pieces : List Piece) (piece : Piece) (rest : List ℕ) → ArePieces pieces (spelling_of piece ++ rest) → IsPiece piece rest → ArePieces (pieces ++ piece ∷ []) rest
are_pieces_push [] piece rest each last = (last, tt)
are_pieces_push (first ∷ pieces) piece rest each last =
    (subst (IsPiece first) (sym (row_of-push pieces piece rest)) each.0, are_pieces_push pieces piece rest each.1 last)

pub splits_push : (text : List ℕ) (pieces : List Piece) (piece : Piece) (rest : List ℕ) → Splits text pieces (spelling_of piece ++ rest) → IsPiece piece rest → Splits text (pieces ++ piece ∷ []) rest
splits_push text pieces piece rest split last = record {
  whole = split.whole ∙ sym (row_of-push pieces piece rest);
  each = are_pieces_push pieces piece rest split.each last;
}

pub fine_push : (pieces : List Piece) (piece : Piece) → AllByRecursion IsFine pieces → IsFine piece → AllByRecursion IsFine (pieces ++ piece ∷ [])
fine_push [] piece fine last = (last, tt)
fine_push (first ∷ pieces) piece fine last = (fine.0, fine_push pieces piece fine.1 last)

-- how many bytes the pieces have
pub length-row_of : (pieces : List Piece) (rest : List ℕ) → length (row_of pieces rest) ≡ length (row_of pieces []) + length rest
length-row_of [] rest = omega arith
length-row_of (first ∷ pieces) rest =
    omega (arith, length-row_of pieces rest, length-append (spelling_of first) (row_of pieces rest), length-append (spelling_of first) (row_of pieces []))

-- the lexemes with those of one more piece
pub lexemes_from-push : (text : List ℕ) (at : ℕ) (pieces : List Piece) (piece : Piece) → lexemes_from text at (pieces ++ piece ∷ []) ≡ lexemes_from text at pieces ++ lexemes_at text (at + length (row_of pieces [])) piece
lexemes_from-push text at [] piece =
    append-nil (lexemes_at text at piece) ∙ ap (λ n. lexemes_at text n piece) (sym (add-zero at))
lexemes_from-push text at (first ∷ pieces) piece =
    let place : at + length (spelling_of first) + length (row_of pieces []) ≡ at + length (row_of (first ∷ pieces) []) =
    omega (arith, length-append (spelling_of first) (row_of pieces [])) in
    ap (λ more. lexemes_at text at first ++ more)
    (lexemes_from-push text (at + length (spelling_of first)) pieces piece
    ∙ ap (λ n. lexemes_from text (at + length (spelling_of first)) pieces ++ lexemes_at text n piece) place)
    ∙ sym (append_assoc (lexemes_at text at first) (lexemes_from text (at + length (spelling_of first)) pieces) (lexemes_at text (at + length (row_of (first ∷ pieces) [])) piece))

-- the lexemes of a row lie in order
in_order_after : (text : List ℕ) (from at : ℕ) (piece : Piece) (more : List Lexeme) → from ≤ at → spelling_of piece ≡ slice_range text at (at + length (spelling_of piece)) → ((start : ℕ) → start ≤ at + length (spelling_of piece) → AreInOrder text start more) → AreInOrder text from (lexemes_at text at piece ++ more)
in_order_after text from at (Blank b) more before is after = after from (omega arith)
in_order_after text from at (Comment bytes) more before is after = after from (omega arith)
in_order_after text from at (Word bytes) more before is after = (before, is, after (at + length bytes) (omega arith))
in_order_after text from at (Number bytes) more before is after = (before, is, after (at + length bytes) (omega arith))
in_order_after text from at (Symbol bytes) more before is after = (before, is, after (at + length bytes) (omega arith))

in_order_from : (text : List ℕ) (at : ℕ) (pieces : List Piece) → at ≤ length text → drop at text ≡ row_of pieces [] → (from : ℕ) → from ≤ at → AreInOrder text from (lexemes_from text at pieces)
in_order_from text at [] within row from before = omega arith
in_order_from text at (piece ∷ pieces) within row from before =
    let bytes = spelling_of piece in
    let end : at + length bytes ≤ length text =
    omega (arith, ap length row, length-drop at text, length-append bytes (row_of pieces [])) in
    let size : at + length bytes - at ≡ length bytes = omega arith in
    let is : bytes ≡ slice_range text at (at + length bytes) =
    sym (ap (λ n. take n (drop at text)) size ∙ ap (take (length bytes)) row ∙ take_at bytes (row_of pieces []) (length bytes) refl) in
    let behind : drop (at + length bytes) text ≡ row_of pieces [] =
    sym (drop-drop (length bytes) at text) ∙ ap (drop (length bytes)) row ∙ drop_at bytes (row_of pieces []) (length bytes) refl in
    in_order_after text from at piece (lexemes_from text (at + length bytes) pieces) before is
    (λ start order. in_order_from text (at + length bytes) pieces end behind start order)

pub lexes_in_order : (text : List ℕ) (lexemes : List Lexeme) → Lexes text lexemes → AreInOrder text 0 lexemes
lexes_in_order text lexemes lexes =
    subst (AreInOrder text 0) (sym lexes.listed) (in_order_from text 0 lexes.pieces (omega arith) lexes.split.whole 0 (omega arith))
