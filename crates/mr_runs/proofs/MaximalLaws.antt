-- Pieces that are as few as can be: parts of them, and some put behind others.
use Rattle.mr_runs.proofs.Common.{◌≡◌, List, [], ◌∷◌, ◌++◌, Some, None, refl, sym, ap, ◌∙◌, same_Some, Mark, first_mark, last_mark, SeenPiece, mark_of, AreMaximal, IsApartFrom}

-- the last of some pieces and the first of others could not be one piece
abbrev pub AreApart : List SeenPiece → List SeenPiece → Type 0
AreApart xs ys = (m : Mark) → last_mark xs ≡ Some m → first_mark ys ≡ Some m → ⊥

no_mark : (m : Mark) → None ≡ Some m → ⊥
no_mark m e = cc

apart_from_first : (p : SeenPiece) (ys : List SeenPiece) (m : Mark) → IsApartFrom p ys → Some (mark_of p) ≡ Some m → first_mark ys ≡ Some m → ⊥
apart_from_first p [] m h is first = no_mark m first
apart_from_first p (y ∷ ys) m h is first = h (same_Some (mark_of p) (mark_of y) (is ∙ sym first))

first_from_apart : (p : SeenPiece) (ys : List SeenPiece) → AreApart (p ∷ []) ys → IsApartFrom p ys
first_from_apart p [] h = tt
first_from_apart p (y ∷ ys) h = λ same. h (mark_of p) refl (ap (λ (m : Mark). Some m) (sym same))

pub maximal_front : (xs ys : List SeenPiece) → AreMaximal (xs ++ ys) → AreMaximal xs
maximal_front [] ys h = tt
maximal_front (x ∷ []) ys h = (h.0, tt, tt)
maximal_front (x ∷ y ∷ xs) ys h = (h.0, h.1, maximal_front (y ∷ xs) ys h.2)

pub maximal_back : (xs ys : List SeenPiece) → AreMaximal (xs ++ ys) → AreMaximal ys
maximal_back [] ys h = h
maximal_back (x ∷ xs) ys h = maximal_back xs ys h.2

pub maximal_seam : (xs ys : List SeenPiece) → AreMaximal (xs ++ ys) → AreApart xs ys
maximal_seam [] ys h = λ m last first. no_mark m last
maximal_seam (x ∷ []) ys h = λ m last first. apart_from_first x ys m h.1 last first
maximal_seam (x ∷ y ∷ xs) ys h = maximal_seam (y ∷ xs) ys h.2

pub maximal_append : (xs ys : List SeenPiece) → AreMaximal xs → AreApart xs ys → AreMaximal ys → AreMaximal (xs ++ ys)
maximal_append [] ys h apart k = k
maximal_append (x ∷ []) ys h apart k = (h.0, first_from_apart x ys apart, k)
maximal_append (x ∷ y ∷ xs) ys h apart k = (h.0, h.1, maximal_append (y ∷ xs) ys h.2 apart k)

-- the first mark of lists in a row is that of the first that has one
pub first_mark-append : (xs ys : List SeenPiece) (m : Mark) → first_mark xs ≡ Some m → first_mark (xs ++ ys) ≡ Some m
first_mark-append [] ys m e = absurd (no_mark m e)
first_mark-append (x ∷ xs) ys m e = e

pub last_mark-push : (xs : List SeenPiece) (y : SeenPiece) → last_mark (xs ++ y ∷ []) ≡ Some (mark_of y)
last_mark-push [] y = refl
last_mark-push (x ∷ []) y = refl
last_mark-push (x ∷ z ∷ xs) y = last_mark-push (z ∷ xs) y

-- pieces with other neighbours, of the same marks as theirs before
pub apart_with_first : (xs ys zs : List SeenPiece) (m : Mark) → AreApart xs ys → first_mark ys ≡ Some m → first_mark zs ≡ Some m → AreApart xs zs
apart_with_first xs ys zs m apart e f = λ n last first. apart n last (e ∙ sym f ∙ first)

pub apart_with_last : (xs ys zs : List SeenPiece) (m : Mark) → AreApart xs zs → last_mark xs ≡ Some m → last_mark ys ≡ Some m → AreApart ys zs
apart_with_last xs ys zs m apart e f = λ n last first. apart n (e ∙ sym f ∙ last) first
