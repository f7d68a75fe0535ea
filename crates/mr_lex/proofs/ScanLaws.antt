-- A text of which the front has been read.
use Rattle.mr_lex.proofs.Common.{◌≡◌, ℕ, ◌+◌, ◌-◌, ◌^◌, ◌<◌, ◌≤◌, List, [], ◌∷◌, ◌++◌, length, take, drop, refl, sym, ap, ◌∙◌, subst, arith, length-append, length-drop, Ok, Err, slice_range, AllByRecursion, append-nil, drop-drop, drop_at, take_at, Piece, spelling_of, IsFine, Splits, row_of, lexemes_at, lexemes_from, Lexes, fault_at, StopsAt, IsOneLine, lexeme_in, AreBetween, piece_at}
use Rattle.std.proofs.Common.{map}
use Rattle.std.proofs.lemmas.List.{drop_all, take_rest, map-append}
use Rattle.mr_lex.specs.Tokens.{lexeme_at}
use Rattle.mr_lex.specs.Scanning.{piece_of, found_in, Finds, IsPlaceIn}
use Rattle.mr_lex.specs.Spans.{spans_of}
use Rattle.mr_lex.specs.declared.list.Span.{Span}
use Rattle.mr_lex.specs.declared.place.Place.{Place}
use Rattle.mr_lex.specs.declared.piece.Found.{Found}
use Rattle.mr_lex.specs.declared.piece.PieceKind.{PieceKind}
use Rattle.mr_lex.specs.declared.piece.PieceKind.TheVariants.{Blank, Comment, Token}
use Rattle.mr_lex.specs.declared.token.TokenKind.{TokenKind}
use Rattle.mr_lex.specs.declared.token.TokenKind.TheVariants.{Word, Number, Symbol}
use Rattle.mr_lex.proofs.PieceLaws.{BeginsWith, piece_at_ok, piece_at_err, piece_one_line, spelling_some}
use Rattle.mr_lex.proofs.RowLaws.{splits_push, fine_push, length-row_of, lexemes_from-push}
use Rattle.mr_lex.proofs.SpanLaws.{between_push, between_more}

-- the text has been read up to the place, and the spans are those of its tokens up to there
pub record IsScanned (text : List ℕ) (spans : List Span) (place : Place) : Type 0 where
  pub pieces : List Piece
  pub split : Splits text pieces (drop place.at text)
  pub fine : AllByRecursion IsFine pieces
  pub listed : map (lexeme_in text) spans ≡ lexemes_from text 0 pieces
  pub within : place.at ≤ length text
  pub placed : IsPlaceIn text place
  pub between : AreBetween 0 place.at spans

-- the piece that was found at a place, and what stands behind it
pub record IsNext (text : List ℕ) (at : ℕ) (found : Found) : Type 0 where
  pub front : BeginsWith (drop at text) (found_in (drop at text) found) (drop (at + found.len) text)
  pub size : found.len ≡ length (spelling_of (found_in (drop at text) found))
  pub some : 0 < found.len
  pub within : at + found.len ≤ length text
  pub one_line : IsOneLine (slice_range text at (at + found.len))

next_at : (text : List ℕ) (at : ℕ) (found : Found) → at < length text → Finds (drop at text) (Ok found) (piece_at (drop at text)) → IsNext text at found
next_at text at found before finds =
    let rest = drop at text in
    let piece = found_in rest found in
    let bytes = spelling_of piece in
    let got = piece_at_ok rest piece (omega (arith, length-drop at text)) finds.0 in
    let behind : got.0 ≡ drop (at + found.len) text =
    sym (drop_at bytes got.0 found.len (sym finds.1)) ∙ ap (drop found.len) (sym got.1.whole) ∙ drop-drop found.len at text in
    let size : at + found.len - at ≡ found.len = omega arith in
    let spelled : bytes ≡ slice_range text at (at + found.len) =
    sym (ap (λ n. take n rest) size ∙ ap (take found.len) got.1.whole ∙ take_at bytes got.0 found.len (sym finds.1)) in
    record {
      front = subst (BeginsWith rest piece) behind got.1;
      size = finds.1;
      some = omega (arith, finds.1, spelling_some piece got.0 got.1.well_formed);
      within = omega (arith, finds.1, ap length got.1.whole, length-append bytes got.0, length-drop at text);
      one_line = subst IsOneLine spelled (piece_one_line piece got.0 got.1.well_formed);
    }

pub is_next : (text : List ℕ) (at : ℕ) (found : Found) → at < length text → Finds (slice_range text at (length text)) (Ok found) (piece_at (slice_range text at (length text))) → IsNext text at found
is_next text at found before finds =
    next_at text at found before (subst (λ rest. Finds rest (Ok found) (piece_at rest)) (take_rest text at) finds)

-- the lexeme of a span at a place
lexeme_in-span : (text : List ℕ) (place : Place) (kind : TokenKind) (len : ℕ) → IsPlaceIn text place → lexeme_in text (record { kind = kind; at = place.at; len = len; line = place.line; col = place.col }) ≡ lexeme_at text place.at kind (take len (drop place.at text))
lexeme_in-span text place kind len placed =
    let size : place.at + len - place.at ≡ len = omega arith in
    λ i. record { kind = kind; text = take (size i) (drop place.at text); at = place.at; line = placed.line i; col = placed.col i }

lexemes_of-spans : (text : List ℕ) (place : Place) (kind : PieceKind) (len : ℕ) → IsPlaceIn text place → map (lexeme_in text) (spans_of place kind len) ≡ lexemes_at text place.at (piece_of kind (take len (drop place.at text)))
lexemes_of-spans text place Blank len placed = refl
lexemes_of-spans text place Comment len placed = refl
lexemes_of-spans text place (Token Word) len placed = ap (λ lexeme. lexeme ∷ []) (lexeme_in-span text place Word len placed)
lexemes_of-spans text place (Token Number) len placed = ap (λ lexeme. lexeme ∷ []) (lexeme_in-span text place Number len placed)
lexemes_of-spans text place (Token Symbol) len placed = ap (λ lexeme. lexeme ∷ []) (lexeme_in-span text place Symbol len placed)

between_spans : (to : ℕ) (spans : List Span) (place : Place) (kind : PieceKind) (len : ℕ) → AreBetween 0 place.at spans → place.at + len ≤ to → AreBetween 0 to (spans ++ spans_of place kind len)
between_spans to spans place Blank len between order =
    subst (AreBetween 0 to) (sym (append-nil spans)) (between_more 0 place.at to spans between (omega arith))
between_spans to spans place Comment len between order =
    subst (AreBetween 0 to) (sym (append-nil spans)) (between_more 0 place.at to spans between (omega arith))
between_spans to spans place (Token kind) len between order =
    between_push 0 place.at to spans _ between (omega arith) order

-- one more piece has been read
pub scanned_next : (text : List ℕ) (spans : List Span) (place : Place) (found : Found) (more : List Span) (next : Place) → IsScanned text spans place → IsNext text place.at found → more ≡ spans ++ spans_of place found.kind found.len → next.at ≡ place.at + found.len → IsPlaceIn text next → IsScanned text more next
scanned_next text spans place found more next scanned front pushed moved placed =
    let rest = drop place.at text in
    let piece = found_in rest found in
    let behind = drop (place.at + found.len) text in
    let done : 0 + length (row_of scanned.pieces []) ≡ place.at =
    omega (arith, ap length scanned.split.whole, length-row_of scanned.pieces rest, length-drop place.at text, scanned.within) in
    let split : Splits text (scanned.pieces ++ piece ∷ []) behind =
    splits_push text scanned.pieces piece behind (subst (Splits text scanned.pieces) front.front.whole scanned.split) front.front.well_formed in
    let listed : map (lexeme_in text) (spans ++ spans_of place found.kind found.len) ≡ lexemes_from text 0 (scanned.pieces ++ piece ∷ []) =
    map-append (lexeme_in text) spans (spans_of place found.kind found.len)
    ∙ ap (λ front. front ++ map (lexeme_in text) (spans_of place found.kind found.len)) scanned.listed
    ∙ ap (λ last. lexemes_from text 0 scanned.pieces ++ last) (lexemes_of-spans text place found.kind found.len scanned.placed ∙ ap (λ n. lexemes_at text n piece) (sym done))
    ∙ sym (lexemes_from-push text 0 scanned.pieces piece) in
    record {
      pieces = scanned.pieces ++ piece ∷ [];
      split = subst (λ n. Splits text (scanned.pieces ++ piece ∷ []) (drop n text)) (sym moved) split;
      fine = fine_push scanned.pieces piece scanned.fine front.front.fine;
      listed = ap (map (lexeme_in text)) pushed ∙ listed;
      within = omega (arith, moved, front.within);
      placed = placed;
      between = subst (AreBetween 0 next.at) (sym pushed) (between_spans next.at spans place found.kind found.len scanned.between (omega arith));
    }

-- all has been read
pub scanned_lexes : (text : List ℕ) (spans : List Span) (place : Place) → length text ≤ 2 ^ 20 → IsScanned text spans place → length text ≤ place.at → Lexes text (map (lexeme_in text) spans)
scanned_lexes text spans place short scanned end = record {
  short = short;
  pieces = scanned.pieces;
  split = subst (Splits text scanned.pieces) (drop_all place.at text end) scanned.split;
  fine = scanned.fine;
  listed = scanned.listed;
}

-- a fault stands at the place
pub scanned_stops : (text : List ℕ) (spans : List Span) (place : Place) (code : ℕ) → length text ≤ 2 ^ 20 → IsScanned text spans place → place.at < length text → piece_at (slice_range text place.at (length text)) ≡ Err code → StopsAt text (record { line = place.line; col = place.col; code = code })
scanned_stops text spans place code short scanned before read =
    let rest = drop place.at text in
    let offset : place.at ≡ length text - length rest = omega (arith, length-drop place.at text) in
    record {
      short = short;
      pieces = scanned.pieces;
      rest = rest;
      split = scanned.split;
      fine = scanned.fine;
      faulty = piece_at_err rest code (omega (arith, length-drop place.at text)) (ap piece_at (sym (take_rest text place.at)) ∙ read);
      placed = (λ i. record { line = scanned.placed.line i; col = scanned.placed.col i; code = code }) ∙ ap (λ n. fault_at text n code) offset;
    }
