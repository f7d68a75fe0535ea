-- A text has its lines, and no others.
use Rattle.mr_sched.proofs.Common.{◌≡◌, ◌≢◌, ℕ, List, [], ◌∷◌, ◌++◌, refl, ap, ◌∙◌, append_assoc, inl, inr, flat_map, AllByRecursion, ended, IsUnbroken, Lines, parts_at}
use Rattle.std.proofs.lemmas.Bool.{cases_eq}
use Rattle.mr_sched.proofs.Parts.{parts_at-free, parts_at-append}

regroup : (line more rest : List ℕ) → ((line ++ 10 ∷ []) ++ more) ++ rest ≡ line ++ (10 ∷ (more ++ rest))
regroup line more rest = simp append_assoc

parts_at-lines : (lines : List (List ℕ)) (rest : List ℕ) → AllByRecursion IsUnbroken lines → IsUnbroken rest → parts_at 10 (flat_map ended lines ++ rest) ≡ lines ++ rest ∷ []
parts_at-lines [] rest unbroken rest_unbroken = parts_at-free 10 rest rest_unbroken
parts_at-lines (line ∷ lines) rest unbroken rest_unbroken =
    ap (parts_at 10) (regroup line (flat_map ended lines) rest)
    ∙ parts_at-append 10 line (flat_map ended lines ++ rest) unbroken.0
    ∙ ap (λ (w : List (List ℕ)). line ∷ w) (parts_at-lines lines rest unbroken.1 rest_unbroken)

-- the parts between LFs are the lines, and then the rest
pub parts_from_lines : (text : List ℕ) (lines : List (List ℕ)) (rest : List ℕ) → Lines text lines rest → parts_at 10 text ≡ lines ++ rest ∷ []
parts_from_lines text lines rest h = ap (parts_at 10) h.parts ∙ parts_at-lines lines rest h.unbroken h.rest_unbroken

-- some lines and a rest
pub record HasLines (text : List ℕ) : Type 0 where
  pub lines : List (List ℕ)
  pub rest : List ℕ
  pub split : Lines text lines rest

behind_lf : (text : List ℕ) → HasLines text → HasLines (10 ∷ text)
behind_lf text h = record {
  lines = [] ∷ h.lines;
  rest = h.rest;
  split = record { parts = ap (λ (w : List ℕ). 10 ∷ w) h.split.parts; unbroken = (tt, h.split.unbroken); rest_unbroken = h.split.rest_unbroken };
}

behind_byte : (b : ℕ) (text : List ℕ) (lines : List (List ℕ)) (rest : List ℕ) → b ≢ 10 → Lines text lines rest → HasLines (b ∷ text)
behind_byte b text [] rest other h =
    record { lines = []; rest = b ∷ rest; split = record { parts = ap (λ (w : List ℕ). b ∷ w) h.parts; unbroken = tt; rest_unbroken = (other, h.rest_unbroken) } }
behind_byte b text (line ∷ lines) rest other h =
    record {
      lines = (b ∷ line) ∷ lines;
      rest = rest;
      split = record { parts = ap (λ (w : List ℕ). b ∷ w) h.parts; unbroken = ((other, h.unbroken.0), h.unbroken.1); rest_unbroken = h.rest_unbroken };
    }

pub has_lines : (text : List ℕ) → HasLines text
has_lines [] = record { lines = []; rest = []; split = record { parts = refl; unbroken = tt; rest_unbroken = tt } }
has_lines (b ∷ text) =
    elim (cases_eq b 10) [
      | inl e ↦ rw e (behind_lf text (has_lines text))
      | inr other ↦ let h = has_lines text in behind_byte b text h.lines h.rest other h.split
    ]
