-- How things are written as rows of words. A form says it for one kind of thing; a grammar is a form for each kind.
use Rattle.std.specs.Prelude.{◌≡◌, ℕ, suc, Bool, if◌then◌else◌, ◌⊎◌, ◌||◌, List, [], ◌∷◌, ◌++◌, codes, Option, None}
use Rattle.std.specs.Prelude.{Some}
use Rattle.mr_ast.specs.declared.words.Bracket.{Bracket}
use Rattle.mr_ast.specs.declared.words.Bracket.TheVariants.{Round, Curly, Square}

-- a token: its bytes, and its place among the tokens of its text, from 0 on
pub record Word : Type 0 where
  pub text : List ℕ
  pub place : ℕ

-- a word, and the code of the limit that it breaks where it stands, if it breaks one
pub record Mark : Type 0 where
  pub word : Word
  pub flaw : Option ℕ

-- the bracket that opens
abbrev pub opening : Bracket → List ℕ
opening Round = codes "("
opening Curly = codes "{"
opening Square = codes "["

-- the bracket that closes
abbrev pub closing : Bracket → List ℕ
closing Round = codes ")"
closing Curly = codes "}"
closing Square = codes "]"

-- How a thing of a type is written. S is what names stand for, and P names the kinds of parts that a form may refer to.
-- Cases: a word tells which form follows. Either, Many: the next word tells. Within: brackets, maybe one too many (7).
pub data Form (S : Type 0) (P : Type 0) (M : P → Type 0) : Type 0 → Type 1 where
  Empty : {A : Type 0} → A → Form S P M A
  Then : {A B C : Type 0} → (A → B → C) → Form S P M A → Form S P M B → Form S P M C
  Cases : {I A : Type 0} → (S → Word → Option (I × Option ℕ)) → (I → Form S P M A) → Form S P M A
  Either : {A : Type 0} → (List ℕ → Bool) → Form S P M A → Form S P M A → Form S P M A
  Many : {A : Type 0} → (List ℕ → Bool) → (ℕ → Form S P M A) → Form S P M (List A)
  Within : {A : Type 0} → Bool → Bracket → Form S P M A → Form S P M A
  Part : (p : P) → Form S P M (M p)
  In : {A : Type 0} → (S → S) → Form S P M A → Form S P M A

-- Which rows of marks write a thing.
abbrev pub Spelling : (S P : Type 0) (M : P → Type 0) → Type 1
Spelling S P M = S → (A : Type 0) → Form S P M A → A → List Mark → Type 0

-- each of the things in a row is written, one behind the other; the first has this number
abbrev pub EachSpelled : {A : Type 0} → (ℕ → A → List Mark → Type 0) → ℕ → List A → List Mark → Type 0
EachSpelled spelled k [] marks = marks ≡ []
EachSpelled spelled k (x ∷ xs) marks =
    (front : List Mark) × (back : List Mark) × (marks ≡ front ++ back) × spelled k x front
    × EachSpelled spelled (suc k) xs back

-- The marks write the thing in this form; full: one more bracket breaks limit 7; inside, part: what writes those parts.
abbrev pub SpelledBy : {S P : Type 0} {M : P → Type 0} → Bool → Spelling S P M
    → (S → (p : P) → M p → List Mark → Type 0) → S → {A : Type 0} → Form S P M A → A → List Mark → Type 0
SpelledBy full inside part scope (Empty a) x marks = (x ≡ a) × (marks ≡ [])
SpelledBy full inside part scope (Then {A} {B} f a b) z marks =
    (x : A) × (y : B) × (front : List Mark) × (back : List Mark) × (z ≡ f x y) × (marks ≡ front ++ back)
    × SpelledBy full inside part scope a x front × SpelledBy full inside part scope b y back
SpelledBy full inside part scope (Cases {I} judge form) x marks =
    (word : Word) × (i : I) × (flaw : Option ℕ) × (back : List Mark) × (judge scope word ≡ Some (i, flaw))
    × (marks ≡ record { word = word; flaw = flaw } ∷ back) × SpelledBy full inside part scope (form i) x back
SpelledBy full inside part scope (Either test a b) x marks =
    SpelledBy full inside part scope a x marks ⊎ SpelledBy full inside part scope b x marks
SpelledBy full inside part scope (Many test form) xs marks =
    EachSpelled (λ k. SpelledBy full inside part scope (form k)) 0 xs marks
SpelledBy full inside part scope (Within {A} over bracket a) x marks =
    (start : Word) × (end : Word) × (between : List Mark) × (start.text ≡ opening bracket)
    × (end.text ≡ closing bracket) × (marks ≡ record { word = start; flaw = if over || full then Some 7 else None }
    ∷ between ++ record { word = end; flaw = None } ∷ []) × inside scope A a x between
SpelledBy full inside part scope (Part p) x marks = part scope p x marks
SpelledBy full inside part scope (In into a) x marks = SpelledBy full inside part (into scope) a x marks
