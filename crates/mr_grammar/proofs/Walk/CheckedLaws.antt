-- What reading gives where a row of marks writes a thing: the thing, or the first limit that the row breaks.
use Rattle.mr_grammar.proofs.Common.{List, [], ◌∷◌, Option, ℕ, Result, None, Some, Ok, ◌++◌, ◌≡◌, refl, ap, sym, ◌∙◌, append-nil, Word, Mark, Stop, words_in, IsFine, stop, Reads, read, ◌>>=◌}
use Rattle.mr_grammar.proofs.Walk.Rows.{words-append-rest}

-- the first of the words, if there is one, is such a word
abbrev pub First : (Word → Type 0) → List Word → Type 0
First P [] = Unit {0}
First P (w ∷ ws) = P w

pub first-map : {P Q : Word → Type 0} (ws : List Word) → ((w : Word) → P w → Q w) → First P ws → First Q ws
first-map [] f p = tt
first-map (w ∷ ws) f p = f w p

abbrev pub unless_flawed : {A : Type 0} → Option ℕ → List Word → Result A Stop → Result A Stop
unless_flawed None ws answer = answer
unless_flawed (Some code) ws answer = stop code ws

-- what is read where the row writes the thing: the thing, and the rest behind it; or the first limit that the row breaks
abbrev pub checked : {A : Type 0} → A → List Mark → List Word → Result (A × List Word) Stop
checked x [] rest = Ok (x, rest)
checked x (m ∷ marks) rest = unless_flawed m.flaw (m.word ∷ words_in marks ++ rest) (checked x marks rest)

-- so it is read in front of all words that end it, where the row breaks no limit
abbrev pub IsRead : {A : Type 0} → Reads A → (Word → Type 0) → A → List Mark → Type 0
IsRead read ends x marks = (rest : List Word) → (IsFine marks → First ends rest) → read (words_in marks ++ rest) ≡ checked x marks rest

-- a row behind another
pub checked-then : {A B : Type 0} (next : A × List Word → Result (B × List Word) Stop) (x : A) (z : B) (front back : List Mark) (rest : List Word)
    → (IsFine front → next (x, words_in back ++ rest) ≡ checked z back rest)
    → checked x front (words_in back ++ rest) >>= next ≡ checked z (front ++ back) rest
checked-then next x z [] back rest behind = behind tt
checked-then {B} next x z (m ∷ front) back rest behind = go m.flaw (λ e. checked-then next x z front back rest (λ fine. behind (e, fine)))
  where
    go : (flaw : Option ℕ) → (flaw ≡ None → checked x front (words_in back ++ rest) >>= next ≡ checked z (front ++ back) rest)
        → unless_flawed flaw (m.word ∷ words_in front ++ (words_in back ++ rest)) (checked x front (words_in back ++ rest)) >>= next
        ≡ unless_flawed flaw (m.word ∷ words_in (front ++ back) ++ rest) (checked z (front ++ back) rest)
    go None more = more refl
    go (Some code) more = ap (λ ws. stop {A = B × List Word} code (m.word ∷ ws)) (sym (words-append-rest front back rest))

-- a thing that is made of what was read
pub checked-made : {A B : Type 0} (f : A → B) (x : A) (marks : List Mark) (rest : List Word)
    → checked x marks rest >>= (λ y. Ok (f y.0, y.1)) ≡ checked (f x) marks rest
checked-made f x marks rest =
    checked-then (λ y. Ok (f y.0, y.1)) x (f x) marks [] rest (λ good. refl) ∙ ap (λ row. checked (f x) row rest) (append-nil marks)
