-- Windows of pieces: their bytes, and that they are as few as can be.
use Rattle.mr_runs.proofs.Common.{◌≡◌, ℕ, zero, suc, ◌-◌, ◌<◌, ◌≤◌, min, Bool, true, false, cond, List, [], ◌∷◌, ◌++◌, length, take, drop, replicate, refl, sym, ap, ◌∙◌, arith, length-drop, length-take, take_all, drop-append-le, drop-map, drop-replicate, drop_all, take-map, take-replicate, length-replicate, AbstractByte, Uninit, Init, SeenPiece, UninitPiece, InitPiece, bytes_of_piece, bytes_of_pieces, mark_of, piece_len, AreMaximal, IsApartFrom, first_piece, first_pieces, piece_past, pieces_past}
use Rattle.std.proofs.Common.{ltb-true, ltb-false}
use Rattle.std.specs.Prelude.{nat_lt}
use Rattle.std.proofs.lemmas.List.{take_min}
use Rattle.mr_runs.proofs.ListLaws.{drop_in_append, take_in_append}
use Rattle.mr_runs.proofs.PlacedLaws.{length-bytes_of_piece}

-- ---- one piece

pub bytes_of_piece-past : (p : SeenPiece) (n : ℕ) → bytes_of_piece (piece_past p n) ≡ drop n (bytes_of_piece p)
bytes_of_piece-past (UninitPiece len) n = sym (drop-replicate n len Uninit)
bytes_of_piece-past (InitPiece numbers provenance) n = sym (drop-map (λ n. Init n provenance) n numbers)

take_of_replicate : (n len : ℕ) → replicate (min n len) Uninit ≡ take n (replicate len Uninit)
take_of_replicate n len =
    ap (λ k. replicate k Uninit) (ap (min n) (sym (length-replicate len Uninit)))
    ∙ sym (take-replicate (min n (length (replicate len Uninit))) len Uninit (smaller n len))
    ∙ take_min n (replicate len Uninit)
  where
    smaller : (n len : ℕ) → min n (length (replicate len Uninit)) ≤ len
    smaller n len = omega (arith, length-replicate len Uninit)

pub bytes_of_piece-first : (p : SeenPiece) (n : ℕ) → bytes_of_piece (first_piece p n) ≡ take n (bytes_of_piece p)
bytes_of_piece-first (UninitPiece len) n = take_of_replicate n len
bytes_of_piece-first (InitPiece numbers provenance) n = sym (take-map (λ n. Init n provenance) n numbers)

pub piece_len-past : (p : SeenPiece) (n : ℕ) → piece_len (piece_past p n) ≡ piece_len p - n
piece_len-past (UninitPiece len) n = refl
piece_len-past (InitPiece numbers provenance) n = length-drop n numbers

pub piece_len-first : (p : SeenPiece) (n : ℕ) → piece_len (first_piece p n) ≡ min n (piece_len p)
piece_len-first (UninitPiece len) n = refl
piece_len-first (InitPiece numbers provenance) n = length-take n numbers

pub mark_of-past : (p : SeenPiece) (n : ℕ) → mark_of (piece_past p n) ≡ mark_of p
mark_of-past (UninitPiece len) n = refl
mark_of-past (InitPiece numbers provenance) n = refl

pub mark_of-first : (p : SeenPiece) (n : ℕ) → mark_of (first_piece p n) ≡ mark_of p
mark_of-first (UninitPiece len) n = refl
mark_of-first (InitPiece numbers provenance) n = refl

-- no bytes less
pub piece_past-zero : (p : SeenPiece) → piece_past p 0 ≡ p
piece_past-zero (UninitPiece len) = ap UninitPiece (same len)
  where
    same : (n : ℕ) → n - 0 ≡ n
    same n = omega arith
piece_past-zero (InitPiece numbers provenance) = refl

-- all bytes, or more
pub first_piece-all : (p : SeenPiece) (n : ℕ) → piece_len p ≤ n → first_piece p n ≡ p
first_piece-all (UninitPiece len) n le = ap UninitPiece (smaller le)
  where
    smaller : len ≤ n → min n len ≡ len
    smaller le = omega arith
first_piece-all (InitPiece numbers provenance) n le = ap (λ (ns : List ℕ). InitPiece ns provenance) (take_all n numbers le)

-- ---- pieces past some bytes

past_by : (p : SeenPiece) (ps : List SeenPiece) (n : ℕ) (b : Bool) → nat_lt n (piece_len p) ≡ b
    → bytes_of_pieces (pieces_past ps (n - piece_len p)) ≡ drop (n - piece_len p) (bytes_of_pieces ps)
    → bytes_of_pieces (cond b (piece_past p n ∷ ps) (pieces_past ps (n - piece_len p))) ≡ drop n (bytes_of_piece p ++ bytes_of_pieces ps)
past_by p ps n true is rest =
    let lt : n < piece_len p = ltb-true n (piece_len p) is in
    ap (λ (bs : List AbstractByte). bs ++ bytes_of_pieces ps) (bytes_of_piece-past p n)
    ∙ sym (drop-append-le n (bytes_of_piece p) (bytes_of_pieces ps) (omega (arith, length-bytes_of_piece p)))
past_by p ps n false is rest =
    let ge : piece_len p ≤ n = ltb-false n (piece_len p) is in
    rest
    ∙ ap (λ k. drop (n - k) (bytes_of_pieces ps)) (sym (length-bytes_of_piece p))
    ∙ sym (drop_in_append n (bytes_of_piece p) (bytes_of_pieces ps) (omega (arith, length-bytes_of_piece p)))

pub bytes_of_pieces-past : (ps : List SeenPiece) (n : ℕ) → bytes_of_pieces (pieces_past ps n) ≡ drop n (bytes_of_pieces ps)
bytes_of_pieces-past [] n = sym (drop_all n [] (omega arith))
bytes_of_pieces-past (p ∷ ps) n = past_by p ps n (nat_lt n (piece_len p)) refl (bytes_of_pieces-past ps (n - piece_len p))

apart_past : (p q : SeenPiece) (ps : List SeenPiece) → mark_of q ≡ mark_of p → IsApartFrom p ps → IsApartFrom q ps
apart_past p q [] e h = tt
apart_past p q (r ∷ ps) e h = λ same. h (sym e ∙ same)

maximal_past_by : (p : SeenPiece) (ps : List SeenPiece) (n : ℕ) (b : Bool) → nat_lt n (piece_len p) ≡ b → AreMaximal (p ∷ ps)
    → AreMaximal (pieces_past ps (n - piece_len p)) → AreMaximal (cond b (piece_past p n ∷ ps) (pieces_past ps (n - piece_len p)))
maximal_past_by p ps n true is h rest =
    let lt : n < piece_len p = ltb-true n (piece_len p) is in
    (omega (arith, piece_len-past p n), apart_past p (piece_past p n) ps (mark_of-past p n) h.1, h.2)
maximal_past_by p ps n false is h rest = rest

pub maximal_past : (ps : List SeenPiece) (n : ℕ) → AreMaximal ps → AreMaximal (pieces_past ps n)
maximal_past [] n h = tt
maximal_past (p ∷ ps) n h = maximal_past_by p ps n (nat_lt n (piece_len p)) refl h (maximal_past ps (n - piece_len p) h.2)

-- ---- the first bytes of pieces

pub bytes_of_pieces-first : (ps : List SeenPiece) (n : ℕ) → bytes_of_pieces (first_pieces ps n) ≡ take n (bytes_of_pieces ps)
bytes_of_pieces-first [] zero = refl
bytes_of_pieces-first [] (suc n) = refl
bytes_of_pieces-first (p ∷ ps) zero = refl
bytes_of_pieces-first (p ∷ ps) (suc n) =
    ap (λ (bs : List AbstractByte). bs ++ bytes_of_pieces (first_pieces ps (suc n - piece_len p))) (bytes_of_piece-first p (suc n))
    ∙ ap (λ (bs : List AbstractByte). take (suc n) (bytes_of_piece p) ++ bs) (bytes_of_pieces-first ps (suc n - piece_len p))
    ∙ ap (λ k. take (suc n) (bytes_of_piece p) ++ take (suc n - k) (bytes_of_pieces ps)) (sym (length-bytes_of_piece p))
    ∙ sym (take_in_append (suc n) (bytes_of_piece p) (bytes_of_pieces ps))

apart_first : (p q : SeenPiece) (ps : List SeenPiece) (n : ℕ) → mark_of q ≡ mark_of p → IsApartFrom p ps → IsApartFrom q (first_pieces ps n)
apart_first p q [] n e h = tt
apart_first p q (r ∷ ps) zero e h = tt
apart_first p q (r ∷ ps) (suc n) e h = λ same. h (sym e ∙ same ∙ mark_of-first r (suc n))

pub maximal_first : (ps : List SeenPiece) (n : ℕ) → AreMaximal ps → AreMaximal (first_pieces ps n)
maximal_first [] n h = tt
maximal_first (p ∷ ps) zero h = tt
maximal_first (p ∷ ps) (suc n) h =
    let filled : 0 < piece_len p = h.0 in
    (omega (arith, piece_len-first p (suc n)), apart_first p (first_piece p (suc n)) ps (suc n - piece_len p) (mark_of-first p (suc n)) h.1, maximal_first ps (suc n - piece_len p) h.2)
