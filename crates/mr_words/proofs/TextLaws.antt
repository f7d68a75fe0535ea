-- The text of the word at a place.
use Rattle.mr_words.proofs.Common.{◌≡◌, ℕ, zero, suc, List, [], ◌∷◌, map, Option, Some, None, slice_get, refl, sym, ap, ◌∙◌, text_at, numbered, words_from, words_of}
use Rattle.mr_lex.specs.Tokens.{Lexeme}

-- the text of a token, or none
abbrev pub text_of : Option Lexeme → List ℕ
text_of (Some l) = l.text
text_of None = []

text_in : (k : ℕ) (lexemes : List Lexeme) (i : ℕ) → text_at (numbered k (map (λ l. l.text) lexemes)) i ≡ text_of (slice_get lexemes i)
text_in k [] i = refl
text_in k (l ∷ ls) zero = refl
text_in k (l ∷ ls) (suc i) = text_in (suc k) ls i

pub text_at_place : (lexemes : List Lexeme) (i : ℕ) (found : Option Lexeme) → found ≡ slice_get lexemes i → text_of found ≡ text_at (words_of lexemes) i
unfolding words_from
text_at_place lexemes i found e = ap text_of e ∙ sym (text_in 0 lexemes i)
