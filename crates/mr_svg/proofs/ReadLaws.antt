-- What is written of a text reads as the text.
use Rattle.std.proofs.Common.{◌≡◌, ◌⊎◌, inl, inr, ⊎_elim, ℕ, ◌≤◌, Bool, true, false, List, [], ◌∷◌, ◌++◌}
use Rattle.std.proofs.Common.{map, sym, subst, arith, refl}
use Rattle.std.proofs.lemmas.Bool.Decides.{eqb_tells, nat_tests}
use Rattle.std.specs.Prelude.{◌==◌, ◌&&◌, nat_le, if◌then◌else◌}
use Rattle.mr_svg.specs.Escape.{Reads, escaped, named_byte, shown_byte, less, greater, ampersand, quote}
use Rattle.mr_svg.specs.Escape.{nothing, plain, named}

-- a byte that can be shown
abbrev IsShown : ℕ → Type 0
IsShown b = (b ≡ 10) ⊎ ((32 ≤ b) × (b ≤ 126))

shown_by : (b : ℕ) (e t p : Bool) → (b == 10) ≡ e → (b == 9) ≡ t → (nat_le 32 b && nat_le b 126) ≡ p
    → IsShown (if e then 10 else (if t then 32 else (if p then b else 63)))
shown_by b true t p e f g = inl refl
shown_by b false true p e f g = inr (omega arith, omega arith)
shown_by b false false true e f g = inr (grind (arith, nat_tests), grind (arith, nat_tests))
shown_by b false false false e f g = inr (omega arith, omega arith)

-- what is shown can be
shown : (b : ℕ) → IsShown (shown_byte b)
shown b = shown_by b (b == 10) (b == 9) (nat_le 32 b && nat_le b 126) refl refl refl

-- a byte that isn't named stands for itself
itself : (b : ℕ) → (b == 60) ≡ false → (b == 62) ≡ false → (b == 38) ≡ false → (b == 34) ≡ false
    → b ∷ [] ≡ named_byte b
itself b e f g h = simp (e, f, g, h) refl

front : (b : ℕ) (bytes text : List ℕ) → IsShown b → Reads bytes text → Reads (named_byte b ++ bytes) (b ∷ text)
front b bytes text shown rest =
    ⊎_elim (λ is. subst (λ n. Reads (named_byte n ++ bytes) (n ∷ text)) (sym is.1) (named less rest))
    (λ not_less. ⊎_elim (λ is. subst (λ n. Reads (named_byte n ++ bytes) (n ∷ text)) (sym is.1) (named greater rest))
    (λ not_greater. ⊎_elim
    (λ is. subst (λ n. Reads (named_byte n ++ bytes) (n ∷ text)) (sym is.1) (named ampersand rest))
    (λ not_ampersand. ⊎_elim
    (λ is. subst (λ n. Reads (named_byte n ++ bytes) (n ∷ text)) (sym is.1) (named quote rest))
    (λ not_quote. subst (λ (xs : List ℕ). Reads (xs ++ bytes) (b ∷ text))
    (itself b not_less.0 not_greater.0 not_ampersand.0 not_quote.0)
    (plain (record {
      printable = shown;
      less = not_less.1;
      greater = not_greater.1;
      ampersand = not_ampersand.1;
      quote = not_quote.1;
    }) rest))
    (eqb_tells b 34)) (eqb_tells b 38)) (eqb_tells b 62)) (eqb_tells b 60)

pub reads_back : (text : List ℕ) → Reads (escaped text) (map shown_byte text)
reads_back [] = nothing
reads_back (b ∷ text) = front (shown_byte b) (escaped text) (map shown_byte text) (shown b) (reads_back text)
