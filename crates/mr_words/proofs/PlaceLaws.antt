-- The words of tokens from a place on.
use Rattle.mr_words.proofs.Common.{◌≡◌, ℕ, zero, suc, ◌+◌, ◌-◌, ◌≤◌, List, [], ◌∷◌, ◌++◌, map, length, drop, Option, Some, None, slice_get, refl, ap, sym, ◌∙◌, subst, arith, AllByRecursion, length-append, length-map, Word, Texts, numbered, words_from, words_of, text_at}
use Rattle.std.proofs.lemmas.List.{append_assoc, drop_all}
use Rattle.mr_lex.specs.Tokens.{Lexeme}

-- the first of the words
pub words_here : (lexemes : List Lexeme) (k : ℕ) (l : Lexeme) → Some l ≡ slice_get lexemes k
    → words_from k lexemes ≡ record { text = l.text; place = k } ∷ words_from (suc k) lexemes
unfolding words_from
words_here lexemes k l e = ap (λ ls. numbered k (map (λ x. x.text) ls)) (at lexemes k l e)
  where
    at : (ls : List Lexeme) (i : ℕ) (x : Lexeme) → Some x ≡ slice_get ls i → drop i ls ≡ x ∷ drop (suc i) ls
    at [] i x e = cc
    at (y ∷ ys) zero x e = let same : x ≡ y = cc in ap (λ z. z ∷ ys) (sym same)
    at (y ∷ ys) (suc i) x e = at ys i x e

-- none are left
pub words_past : (lexemes : List Lexeme) (k : ℕ) → length lexemes ≤ k → words_from k lexemes ≡ []
unfolding words_from
words_past lexemes k le = rw (drop_all k lexemes le) refl

pub words_end : (lexemes : List Lexeme) (k : ℕ) → None ≡ slice_get lexemes k → words_from k lexemes ≡ []
unfolding words_from
words_end lexemes k e = ap (λ ls. numbered k (map (λ x. x.text) ls)) (at lexemes k e)
  where
    at : (ls : List Lexeme) (i : ℕ) → None ≡ slice_get ls i → drop i ls ≡ []
    at [] zero e = refl
    at [] (suc i) e = refl
    at (y ∷ ys) zero e = cc
    at (y ∷ ys) (suc i) e = at ys i e

numbered-length : (k : ℕ) (texts : Texts) → length (numbered k texts) ≡ length texts
numbered-length k [] = refl
numbered-length k (t ∷ ts) = ap suc (numbered-length (suc k) ts)

-- how many words are left
pub words_length : (lexemes : List Lexeme) (k : ℕ) → length (words_from k lexemes) ≡ length lexemes - k
unfolding words_from
words_length lexemes k = numbered-length k (map (λ x. x.text) (drop k lexemes)) ∙ length-map (drop k lexemes) (λ x. x.text) ∙ left lexemes k
  where
    left : (ls : List Lexeme) (i : ℕ) → length (drop i ls) ≡ length ls - i
    left ls zero = omega arith
    left [] (suc i) = omega arith
    left (y ∷ ys) (suc i) = left ys i ∙ omega arith

-- the words behind the first
pub words_next : (lexemes : List Lexeme) (k : ℕ) (w : Word) (rest : List Word) → words_from k lexemes ≡ w ∷ rest → words_from (k + 1) lexemes ≡ rest
unfolding words_from
words_next lexemes k w rest e = at k lexemes k w rest e
  where
    at : (n : ℕ) (ls : List Lexeme) (i : ℕ) (x : Word) (behind : List Word) → numbered n (map (λ l. l.text) (drop i ls)) ≡ x ∷ behind
        → numbered (n + 1) (map (λ l. l.text) (drop (i + 1) ls)) ≡ behind
    at n [] zero x behind e = cc
    at n [] (suc i) x behind e = cc
    at n (y ∷ ys) zero x behind e =
        let tail : numbered (suc n) (map (λ l. l.text) ys) ≡ behind = cc in
        let one : n + 1 ≡ suc n = omega arith in rw one tail
    at n (y ∷ ys) (suc i) x behind e = let one : suc i + 1 ≡ suc (i + 1) = omega arith in rw one (at n ys i x behind e)

-- there are none behind the last
pub none_past : (lexemes : List Lexeme) (k : ℕ) (w : Word) (rest : List Word) → length lexemes ≤ k → words_from k lexemes ≡ w ∷ rest → ⊥
none_past lexemes k w rest le e = let none = words_past lexemes k le in cc

-- the word's text is the one at its place
abbrev pub StandsIn : List Word → Word → Type 0
StandsIn words w = text_at words w.place ≡ w.text

get_behind : {A : Type 0} (front : List A) (x : A) (back : List A) (k : ℕ) → length front ≡ k → slice_get (front ++ x ∷ back) k ≡ Some x
get_behind [] x back zero e = refl
get_behind [] x back (suc k) e = absurd (cc)
get_behind (y ∷ front) x back zero e = absurd (cc)
get_behind (y ∷ front) x back (suc k) e = get_behind front x back k (omega (arith, e))

numbered_stand : (front : List Word) (texts : Texts) (k : ℕ) → length front ≡ k → AllByRecursion (StandsIn (front ++ numbered k texts)) (numbered k texts)
numbered_stand front [] k e = tt
numbered_stand front (t ∷ texts) k e = (
  ap (λ (found : Option Word). elim found as (λ _. List ℕ) [ Some w ↦ w.text | None ↦ [] ]) (get_behind front (record { text = t; place = k }) (numbered (suc k) texts) k e),
  subst (λ words. AllByRecursion (StandsIn words) (numbered (suc k) texts)) (append_assoc front (record { text = t; place = k } ∷ []) (numbered (suc k) texts))
      (numbered_stand (front ++ record { text = t; place = k } ∷ []) texts (suc k) (length-append front (record { text = t; place = k } ∷ []) ∙ omega (arith, e))),
)

-- each word of a text stands at its place
pub words_stand : (lexemes : List Lexeme) → AllByRecursion (StandsIn (words_of lexemes)) (words_of lexemes)
unfolding words_from
words_stand lexemes = numbered_stand [] (map (λ l. l.text) (drop 0 lexemes)) 0 refl
