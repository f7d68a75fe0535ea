-- A text splits in one way into pieces and a rest that begins with a fault or is empty.
use Rattle.mr_lex.proofs.Common.{◌≡◌, ℕ, zero, suc, ◌≤◌, ◌⊎◌, inl, inr, ⊎_elim, List, [], ◌∷◌, ◌++◌, length, drop, refl, ap, ◌∙◌, subst, arith, length-append, Result, Ok, Err, AllByRecursion, drop_at, Piece, spelling_of, IsPiece, IsFine, row_of, ArePieces, Splits, IsFaulty, piece_at, number_at, symbol_at, split_of}
use Rattle.mr_lex.proofs.PieceLaws.{piece_at_piece, piece_at_fault, front_of, BeginsWith, spelling_some}

-- how reading goes on
abbrev after_piece : ℕ → List ℕ → Result Piece ℕ → List Piece × List ℕ
after_piece turns rest front =
    elim front as (λ _. List Piece × List ℕ) [
      | Ok piece ↦ let more = split_of turns (drop (length (spelling_of piece)) rest) in (piece ∷ more.0, more.1)
      | Err code ↦ ([], rest)
    ]

split_of-suc : (turns : ℕ) (rest : List ℕ) → split_of (suc turns) rest ≡ after_piece turns rest (piece_at rest)
unfolding split_of
split_of-suc turns rest = refl

split_of-piece : (turns : ℕ) (piece : Piece) (behind : List ℕ) → IsPiece piece behind → IsFine piece → split_of (suc turns) (spelling_of piece ++ behind) ≡ (piece ∷ (split_of turns behind).0, (split_of turns behind).1)
split_of-piece turns piece behind well_formed fine =
    split_of-suc turns (spelling_of piece ++ behind)
    ∙ ap (after_piece turns (spelling_of piece ++ behind)) (piece_at_piece piece behind well_formed fine)
    ∙ ap (λ rest. (piece ∷ (split_of turns rest).0, (split_of turns rest).1)) (drop_at (spelling_of piece) behind (length (spelling_of piece)) refl)

split_of-fault : (turns : ℕ) (rest : List ℕ) (code : ℕ) → piece_at rest ≡ Err code → split_of turns rest ≡ ([], rest)
unfolding split_of
split_of-fault zero rest code fault = refl
split_of-fault (suc turns) rest code fault = ap (after_piece turns rest) fault

piece_at_nil : piece_at [] ≡ Err 1
unfolding piece_at number_at symbol_at
piece_at_nil = refl

-- a rest at which reading ends
abbrev pub Ends : List ℕ → Type 0
Ends rest = (rest ≡ []) ⊎ ((code : ℕ) × IsFaulty rest code)

ends_fault : (rest : List ℕ) → Ends rest → (code : ℕ) × (piece_at rest ≡ Err code)
ends_fault rest =
    ⊎_elim (λ (empty : rest ≡ []). (1, ap piece_at empty ∙ piece_at_nil))
    (λ (fault : (code : ℕ) × IsFaulty rest code). (fault.0, piece_at_fault rest fault.0 fault.1))

-- the pieces of a row are the ones that are read
pub split_of_row : (turns : ℕ) (pieces : List Piece) (rest : List ℕ) → ArePieces pieces rest → AllByRecursion IsFine pieces → Ends rest → length (row_of pieces rest) ≤ turns → split_of turns (row_of pieces rest) ≡ (pieces, rest)
split_of_row turns [] rest each fine ends room =
    let fault = ends_fault rest ends in split_of-fault turns rest fault.0 fault.1
split_of_row zero (piece ∷ pieces) rest each fine ends room =
    absurd (omega (arith, spelling_some piece _ each.0, length-append (spelling_of piece) (row_of pieces rest)))
split_of_row (suc turns) (piece ∷ pieces) rest each fine ends room =
    let more : length (row_of pieces rest) ≤ turns = omega (arith, spelling_some piece _ each.0, length-append (spelling_of piece) (row_of pieces rest)) in
    split_of-piece turns piece (row_of pieces rest) each.0 fine.0
    ∙ ap (λ split. (piece ∷ split.0, split.1)) (split_of_row turns pieces rest each.1 fine.1 ends more)

-- each text has such a row
pub record Row (text : List ℕ) : Type 0 where
  pub pieces : List Piece
  pub rest : List ℕ
  pub split : Splits text pieces rest
  pub fine : AllByRecursion IsFine pieces
  pub ends : Ends rest

onto_row : (text : List ℕ) (piece : Piece) (behind : List ℕ) → BeginsWith text piece behind → Row behind → Row text
onto_row text piece behind front row = record {
  pieces = piece ∷ row.pieces;
  rest = row.rest;
  split = record {
    whole = front.whole ∙ ap (λ bytes. spelling_of piece ++ bytes) row.split.whole;
    each = (subst (IsPiece piece) row.split.whole front.well_formed, row.split.each);
  };
  fine = (front.fine, row.fine);
  ends = row.ends;
}

empty_row : (text : List ℕ) → Ends text → Row text
empty_row text ends = record { pieces = []; rest = text; split = record { whole = refl; each = tt }; fine = tt; ends = ends }

pub row_of_text : (turns : ℕ) (text : List ℕ) → length text ≤ turns → Row text
row_of_text turns [] room = empty_row [] (inl refl)
row_of_text zero (b ∷ text) room = absurd (omega arith)
row_of_text (suc turns) (b ∷ text) room =
    ⊎_elim
    (λ front.
    let begins : BeginsWith (b ∷ text) front.0 front.1 = front.2 in
    let shorter : length front.1 ≤ turns =
    omega (arith, spelling_some front.0 front.1 begins.well_formed, length-append (spelling_of front.0) front.1, ap length begins.whole) in
    onto_row (b ∷ text) front.0 front.1 begins (row_of_text turns front.1 shorter))
    (λ fault. empty_row (b ∷ text) (inr fault))
    (front_of (b ∷ text) (omega arith))
