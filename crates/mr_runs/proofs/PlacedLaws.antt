-- Pieces under the positions where they begin: their bytes, and what stands at a position.
use Rattle.mr_runs.proofs.Common.{◌≡◌, ◌≢◌, ℕ, ◌+◌, ◌<◌, ◌≤◌, List, [], ◌∷◌, ◌++◌, length, Some, None, refl, sym, ap, ◌∙◌, subst, ⊎_elim, arith, append_assoc, length-append, nat_cmp, cases_order, cases_eq, length-replicate, length-map, same_Some, is_at, IsStrictlySortedBy, keys_of, values_of, AbstractByte, Uninit, Init, SeenPiece, UninitPiece, InitPiece, bytes_of_piece, piece_len, AreMaximal, bytes_in, found, total_len, IsPlaced}
use Rattle.std.proofs.lemmas.Map.{lookup-none}
use Rattle.std.proofs.lemmas.Map.Entries.{none_below_head, none_past_head}
use Rattle.std.proofs.lemmas.Map.Keys.{IsDistinct-from_sorted, sorted_tail}
use Rattle.std.specs.Cmp.{nat_cmp_total, eq_by_cmp_equiv}
use Rattle.mr_runs.proofs.Positions.{at_same, found_here, found_later, less}

-- ---- bytes

pub length-bytes_of_piece : (p : SeenPiece) → length (bytes_of_piece p) ≡ piece_len p
length-bytes_of_piece (UninitPiece len) = length-replicate len Uninit
length-bytes_of_piece (InitPiece numbers provenance) = length-map numbers (λ n. Init n provenance)

pub bytes_in-append : (xs ys : List (ℕ × SeenPiece)) → bytes_in (xs ++ ys) ≡ bytes_in xs ++ bytes_in ys
bytes_in-append [] ys = refl
bytes_in-append (x ∷ xs) ys =
    ap (λ (bs : List AbstractByte). bytes_of_piece x.1 ++ bs) (bytes_in-append xs ys)
    ∙ sym (append_assoc (bytes_of_piece x.1) (bytes_in xs) (bytes_in ys))

pub values_of-append : (xs ys : List (ℕ × SeenPiece)) → values_of (xs ++ ys) ≡ values_of xs ++ values_of ys
values_of-append [] ys = refl
values_of-append (x ∷ xs) ys = ap (λ (ps : List SeenPiece). x.1 ∷ ps) (values_of-append xs ys)

pub total_len-append : (xs ys : List (ℕ × SeenPiece)) → total_len (xs ++ ys) ≡ total_len xs + total_len ys
total_len-append [] ys = omega arith
total_len-append (x ∷ xs) ys = omega (arith, total_len-append xs ys)

pub length-bytes_in : (es : List (ℕ × SeenPiece)) → length (bytes_in es) ≡ total_len es
length-bytes_in [] = refl
length-bytes_in (e ∷ es) = omega (arith, length-append (bytes_of_piece e.1) (bytes_in es), length-bytes_of_piece e.1, length-bytes_in es)

-- ---- positions

pub placed_at : (es : List (ℕ × SeenPiece)) (a b : ℕ) → a ≡ b → IsPlaced es a → IsPlaced es b
placed_at es a b e h = let P : ℕ → Type 0 = λ n. IsPlaced es n in subst P e h

pub placed_append : (xs ys : List (ℕ × SeenPiece)) (at : ℕ) → IsPlaced xs at → IsPlaced ys (at + total_len xs) → IsPlaced (xs ++ ys) at
placed_append [] ys at h k = placed_at ys (at + 0) at (omega arith) k
placed_append (x ∷ xs) ys at h k =
    (h.0, placed_append xs ys (at + piece_len x.1) h.1 (placed_at ys (at + (piece_len x.1 + total_len xs)) (at + piece_len x.1 + total_len xs) (omega arith) k))

pub placed_front : (xs ys : List (ℕ × SeenPiece)) (at : ℕ) → IsPlaced (xs ++ ys) at → IsPlaced xs at
placed_front [] ys at h = tt
placed_front (x ∷ xs) ys at h = (h.0, placed_front xs ys (at + piece_len x.1) h.1)

pub placed_back : (xs ys : List (ℕ × SeenPiece)) (at : ℕ) → IsPlaced (xs ++ ys) at → IsPlaced ys (at + total_len xs)
placed_back [] ys at h = placed_at ys at (at + 0) (omega arith) h
placed_back (x ∷ xs) ys at h =
    placed_at ys (at + piece_len x.1 + total_len xs) (at + (piece_len x.1 + total_len xs)) (omega arith) (placed_back xs ys (at + piece_len x.1) h.1)

-- nothing begins before the first position, nor behind the last byte
pub none_before : (es : List (ℕ × SeenPiece)) (at q : ℕ) → IsPlaced es at → q < at → found q es ≡ None
none_before [] at q h lt = refl
none_before (e ∷ es) at q h lt =
    let begin : e.0 ≡ at = h.0 in
    let other : q ≢ e.0 = λ same. omega arith in
    found_later q e es other ∙ none_before es (at + piece_len e.1) q h.1 (omega arith)

pub none_behind : (es : List (ℕ × SeenPiece)) (at q : ℕ) → IsPlaced es at → AreMaximal (values_of es) → at + total_len es ≤ q → found q es ≡ None
none_behind [] at q h m le = refl
none_behind (e ∷ es) at q h m le =
    let begin : e.0 ≡ at = h.0 in
    let filled : 0 < piece_len e.1 = m.0 in
    let other : q ≢ e.0 = λ same. omega arith in
    found_later q e es other ∙ none_behind es (at + piece_len e.1) q h.1 m.2 (omega arith)

-- ---- the order of positions

not_Some : (x : SeenPiece) → None ≡ Some x → ⊥
not_Some x e = cc

-- entries in order in which the same is found as in placed pieces are these
pub same_as_placed : (es fs : List (ℕ × SeenPiece)) (at : ℕ) → IsStrictlySortedBy nat_cmp (keys_of es) → IsPlaced fs at → AreMaximal (values_of fs)
    → ((q : ℕ) → found q es ≡ found q fs) → es ≡ fs
same_as_placed [] [] at s h m same = refl
same_as_placed [] (f ∷ fs) at s h m same = absurd (not_Some f.1 (same f.0 ∙ found_here f.0 f fs refl))
same_as_placed (e ∷ es) [] at s h m same = absurd (not_Some e.1 (sym (same e.0) ∙ found_here e.0 e es refl))
same_as_placed (e ∷ es) (f ∷ fs) at s h m same =
    let keys : e.0 ≡ f.0 = ⊎_elim (λ k. k) (⊎_elim too_early too_late) (cases_order e.0 f.0) in
    let pieces : e.1 ≡ f.1 = same_Some e.1 f.1 (sym (found_here e.0 e es refl) ∙ same e.0 ∙ found_here e.0 f fs keys) in
    let rest = same_as_placed es fs (at + piece_len f.1) (sorted_tail nat_cmp e.0 (keys_of es) s) h.1 m.2 (others keys) in
    λ i. (keys i, pieces i) ∷ rest i
  where
    too_early : e.0 < f.0 → e.0 ≡ f.0
    too_early lt =
        let begin : f.0 ≡ at = h.0 in
        absurd (not_Some e.1 (sym (none_before (f ∷ fs) at e.0 h (omega arith)) ∙ sym (same e.0) ∙ found_here e.0 e es refl))

    too_late : f.0 < e.0 → e.0 ≡ f.0
    too_late lt =
        absurd (not_Some f.1 (sym (lookup-none (is_at (nat_cmp f.0)) (e ∷ es) (none_below_head nat_cmp_total f.0 e es s (less f.0 e.0 lt))) ∙ same f.0 ∙ found_here f.0 f fs refl))

    past : (q : ℕ) → q ≡ e.0 → found q es ≡ None
    past q here = lookup-none (is_at (nat_cmp q)) es (none_past_head (eq_by_cmp_equiv nat_cmp_total) q e es (IsDistinct-from_sorted nat_cmp (keys_of (e ∷ es)) s) (at_same q e.0 here))

    others : e.0 ≡ f.0 → (q : ℕ) → found q es ≡ found q fs
    others keys q = ⊎_elim
        (λ here. let begin : f.0 ≡ at = h.0 in let filled : 0 < piece_len f.1 = m.0 in past q here ∙ sym (none_before fs (at + piece_len f.1) q h.1 (omega arith)))
        (λ other. sym (found_later q e es other) ∙ same q ∙ found_later q f fs (λ here. other (here ∙ sym keys)))
        (cases_eq q e.0)
