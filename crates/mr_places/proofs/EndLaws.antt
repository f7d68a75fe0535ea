-- Rows and their semicolons.
use Rattle.mr_places.proofs.Common.{◌≡◌, ℕ, suc, ◌+◌, true, if◌then◌else◌, List, [], ◌∷◌, ◌++◌, codes, Option, None, refl, ap, sym, ◌∙◌, arith, append_assoc, Word, Mark, behind, is_end}
use Rattle.mr_places.proofs.FreeLaws.{IsFreeRow}

abbrev pub mark_text : Mark → List ℕ
mark_text m = m.word.text

-- the row has so many semicolons, and ends with the last of them, or is empty
pub record Closes (n : ℕ) (row : List Mark) : Type 0 where
  pub closes : (m : ℕ) (rest : List Mark) → behind mark_text (n + m) (row ++ rest) ≡ behind mark_text m rest

-- the row has so many semicolons
pub record Passes (n : ℕ) (row : List Mark) : Type 0 where
  pub passes : (m : ℕ) (rest : List Mark) → behind mark_text (n + suc m) (row ++ rest) ≡ behind mark_text (suc m) rest

pub closes_none : Closes 0 []
closes_none = record { closes = λ m rest. (let number : 0 + m ≡ m = omega arith in ap (λ i. behind mark_text i rest) number) }

pub closes_passes : {n : ℕ} {row : List Mark} → Closes n row → Passes n row
closes_passes c = record { passes = λ m rest. c.closes (suc m) rest }

pub closes_append : {n m : ℕ} {a b : List Mark} → Closes n a → Closes m b → Closes (n + m) (a ++ b)
closes_append {n} {m} {a} {b} one other = record {
  closes = λ j rest.
      (let number : (n + m) + j ≡ n + (m + j) = omega arith in
      ap (behind mark_text ((n + m) + j)) (append_assoc a b rest) ∙ ap (λ i. behind mark_text i (a ++ (b ++ rest))) number ∙ one.closes (m + j) (b ++ rest) ∙ other.closes j rest);
}

pub passes_append : {n m : ℕ} {a b : List Mark} → Passes n a → Passes m b → Passes (n + m) (a ++ b)
passes_append {n} {m} {a} {b} one other = record {
  passes = λ j rest.
      (let number : (n + m) + suc j ≡ n + suc (m + j) = omega arith in
      let again : suc (m + j) ≡ m + suc j = omega arith in
      ap (behind mark_text ((n + m) + suc j)) (append_assoc a b rest) ∙ ap (λ i. behind mark_text i (a ++ (b ++ rest))) number ∙ one.passes (m + j) (b ++ rest)
      ∙ ap (λ i. behind mark_text i (b ++ rest)) again ∙ other.passes j rest);
}

pub passes_closes : {n m : ℕ} {a b : List Mark} → Passes n a → Closes (suc m) b → Closes (n + suc m) (a ++ b)
passes_closes {n} {m} {a} {b} one other = record {
  closes = λ j rest.
      (let number : (n + suc m) + j ≡ n + suc (m + j) = omega arith in
      let again : suc (m + j) ≡ suc m + j = omega arith in
      ap (behind mark_text ((n + suc m) + j)) (append_assoc a b rest) ∙ ap (λ i. behind mark_text i (a ++ (b ++ rest))) number ∙ one.passes (m + j) (b ++ rest)
      ∙ ap (λ i. behind mark_text i (b ++ rest)) again ∙ other.closes j rest);
}

pub free_passes : (row : List Mark) → IsFreeRow row → Passes 0 row
free_passes row free = record {
  passes = λ m rest. (let number : 0 + suc m ≡ suc m = omega arith in ap (λ i. behind mark_text i (row ++ rest)) number ∙ go row free m rest);
}
  where
    go : (row : List Mark) → IsFreeRow row → (m : ℕ) (rest : List Mark) → behind mark_text (suc m) (row ++ rest) ≡ behind mark_text (suc m) rest
    go [] free m rest = refl
    go (x ∷ xs) free m rest = ap (λ e. if e then behind mark_text m (xs ++ rest) else behind mark_text (suc m) (xs ++ rest)) free.0 ∙ go xs free.1 m rest

pub end_closes : (w : Word) (flaw : Option ℕ) → is_end w.text ≡ true → Closes 1 (record { word = w; flaw = flaw } ∷ [])
end_closes w flaw e = record {
  closes = λ m rest.
      (let number : 1 + m ≡ suc m = omega arith in
      ap (λ i. behind mark_text i (record { word = w; flaw = flaw } ∷ rest)) number ∙ ap (λ t. if t then behind mark_text m rest else behind mark_text (suc m) rest) e);
}

-- a row with a semicolon has a word
pub closes_some : (row : List Mark) → Closes 1 row → row ≡ [] → ⊥
closes_some row c e =
    let comma : Mark = record { word = record { text = codes ","; place = 0 }; flaw = None } in
    let number : 1 ≡ 1 + 0 = omega arith in
    let clash : ◌≡◌ {A = List Mark} [] (comma ∷ []) =
    ap (λ i. behind mark_text i (comma ∷ [])) number ∙ ap (λ r. behind mark_text (1 + 0) (r ++ comma ∷ [])) (sym e) ∙ c.closes 0 (comma ∷ []) in
    absurd (cc)
