-- What is written where brackets nest less deep is written so where they may nest deeper.
use Rattle.mr_grammar.proofs.Common.{ℕ, zero, suc, ◌+◌, ◌-◌, ◌==◌, ◌≤◌, inl, inr, Bool, List, [], ◌∷◌, arith, Mark, Form, Empty, Then, Cases, Either, Many, Within, Part, In, Spelling, SpelledBy, EachSpelled, Scope, Kind, Meaning, Writing, form_of, NoPart, SpelledInside, SpelledPart, Spelled}

-- things in a row, each of which is written so too
pub each_also : {A : Type 0} (one other : ℕ → A → List Mark → Type 0) → ((k : ℕ) (x : A) (marks : List Mark) → one k x marks → other k x marks)
    → (k : ℕ) (xs : List A) (marks : List Mark) → EachSpelled one k xs marks → EachSpelled other k xs marks
each_also one other law k [] marks e = e
each_also one other law k (x ∷ xs) marks (front, back, whole, first, others) =
    (front, back, whole, law k x front first, each_also one other law (suc k) xs back others)

module _ {S P : Type 0} {M : P → Type 0} (full : Bool) (inside inside' : Spelling S P M) (part part' : S → (p : P) → M p → List Mark → Type 0)
    (law_in : (scope : S) (A : Type 0) (a : Form S P M A) (x : A) (marks : List Mark) → inside scope A a x marks → inside' scope A a x marks)
    (law_p : (scope : S) (kind : P) (x : M kind) (marks : List Mark) → part scope kind x marks → part' scope kind x marks) where
  -- where what stands in brackets and the parts are written so too, so is the whole
  pub also_by : (scope : S) {A : Type 0} (form : Form S P M A) (x : A) (marks : List Mark) → SpelledBy full inside part scope form x marks → SpelledBy full inside' part' scope form x marks
  also_by scope (Empty a) x marks h = h
  also_by scope (Then f a b) z marks (x, y, front, back, is_z, whole, one, other) =
      (x, y, front, back, is_z, whole, also_by scope a x front one, also_by scope b y back other)
  also_by scope (Cases judge form) x marks (word, i, flaw, back, judged, whole, behind) = (word, i, flaw, back, judged, whole, also_by scope (form i) x back behind)
  also_by scope (Either test a b) x marks (inl h) = inl (also_by scope a x marks h)
  also_by scope (Either test a b) x marks (inr h) = inr (also_by scope b x marks h)
  also_by scope (Many test form) xs marks h = each_also _ _ (λ k. also_by scope (form k)) 0 xs marks h
  also_by scope (Within {A} over bracket a) x marks (start, end, between, is_start, is_end, whole, inner) =
      (start, end, between, is_start, is_end, whole, law_in scope A a x between inner)
  also_by scope (Part kind) x marks h = law_p scope kind x marks h
  also_by scope (In into a) x marks h = also_by (into scope) a x marks h

-- what stands inside a bracket
pub higher_inside : (low high room : ℕ) → low ≤ high → (scope : Scope) (A : Type 0) (form : Writing A) (x : A) (marks : List Mark)
    → SpelledInside low room scope A form x marks → SpelledInside high room scope A form x marks
unfolding SpelledInside
higher_inside zero high room le scope A form x marks h = absurd h
higher_inside (suc low) zero room le scope A form x marks h = absurd (omega arith)
higher_inside (suc low) (suc high) room le scope A form x marks h =
    let less : low ≤ high = omega arith in
    let law = higher_inside low high (room - 1) less in
    also_by (room == 0) (SpelledInside low (room - 1)) (SpelledInside high (room - 1)) _ _ law
    (λ s kind. also_by (room == 0) (SpelledInside low (room - 1)) (SpelledInside high (room - 1)) NoPart NoPart law (λ i k y ms no. no) s (form_of kind)) scope form x marks h

-- a thing of a kind
pub higher_part : (low high room : ℕ) → low ≤ high → (scope : Scope) (kind : Kind) (x : Meaning kind) (marks : List Mark)
    → SpelledPart low room scope kind x marks → SpelledPart high room scope kind x marks
higher_part low high room le scope kind x marks h =
    also_by (room == 0) (SpelledInside low (room - 1)) (SpelledInside high (room - 1)) NoPart NoPart (higher_inside low high (room - 1) le) (λ i k y ms no. no) scope (form_of kind) x marks h

-- where brackets nest less deep than some height
abbrev pub SomeInside : ℕ → Scope → (A : Type 0) → Writing A → A → List Mark → Type 0
SomeInside room scope A form x marks = (height : ℕ) × SpelledInside height room scope A form x marks

abbrev pub SomePart : ℕ → Scope → (kind : Kind) → Meaning kind → List Mark → Type 0
SomePart room scope kind x marks = (height : ℕ) × SpelledPart height room scope kind x marks

-- a thing in the form, at some height
abbrev pub SomeSpelled : ℕ → Scope → {A : Type 0} → Writing A → A → List Mark → Type 0
SomeSpelled room scope form x marks = (height : ℕ) × Spelled height room scope form x marks

module _ {S P : Type 0} {M : P → Type 0} (full : Bool) (inside : ℕ → Spelling S P M) (part : ℕ → S → (p : P) → M p → List Mark → Type 0)
    (law_in : (low high : ℕ) → low ≤ high → (scope : S) (A : Type 0) (a : Form S P M A) (x : A) (marks : List Mark) → inside low scope A a x marks → inside high scope A a x marks)
    (law_p : (low high : ℕ) → low ≤ high → (scope : S) (kind : P) (x : M kind) (marks : List Mark) → part low scope kind x marks → part high scope kind x marks) where
  -- what is written at one height is written at a greater one
  pub raised_by : (low high : ℕ) → low ≤ high → (scope : S) {A : Type 0} (form : Form S P M A) (x : A) (marks : List Mark)
      → SpelledBy full (inside low) (part low) scope form x marks → SpelledBy full (inside high) (part high) scope form x marks
  raised_by low high le scope form x marks h = also_by full (inside low) (inside high) (part low) (part high) (law_in low high le) (law_p low high le) scope form x marks h

  -- things in a row, each at a height of its own, are written at a height for all
  each_settled : {A : Type 0} (form : ℕ → Form S P M A) (some : ℕ → A → List Mark → Type 0) (scope : S)
      → ((k : ℕ) (x : A) (marks : List Mark) → some k x marks → (height : ℕ) × SpelledBy full (inside height) (part height) scope (form k) x marks)
      → (k : ℕ) (xs : List A) (marks : List Mark) → EachSpelled some k xs marks
      → (height : ℕ) × EachSpelled (λ i. SpelledBy full (inside height) (part height) scope (form i)) k xs marks
  each_settled form some scope law k [] marks e = (0, e)
  each_settled form some scope law k (x ∷ xs) marks (front, back, whole, first, others) =
      let (h₁, one) = law k x front first in
      let (h₂, more) = each_settled form some scope law (suc k) xs back others in (
        h₁ + h₂,
        (
          front,
          back,
          whole,
          raised_by h₁ (h₁ + h₂) (omega arith) scope (form k) x front one,
          each_also _ _ (λ i y ms. raised_by h₂ (h₁ + h₂) (omega arith) scope (form i) y ms) (suc k) xs back more,
        ),
      )

  -- so is a thing in a form
  pub settled_by : (scope : S) {A : Type 0} (form : Form S P M A) (x : A) (marks : List Mark)
      → SpelledBy full (λ s B b y ms. (height : ℕ) × inside height s B b y ms) (λ s kind y ms. (height : ℕ) × part height s kind y ms) scope form x marks
      → (height : ℕ) × SpelledBy full (inside height) (part height) scope form x marks
  settled_by scope (Empty a) x marks h = (0, h)
  settled_by scope (Then f a b) z marks (x, y, front, back, is_z, whole, one, other) =
      let (h₁, first) = settled_by scope a x front one in
      let (h₂, second) = settled_by scope b y back other in
      (h₁ + h₂, (x, y, front, back, is_z, whole, raised_by h₁ (h₁ + h₂) (omega arith) scope a x front first, raised_by h₂ (h₁ + h₂) (omega arith) scope b y back second))
  settled_by scope (Cases judge form) x marks (word, i, flaw, back, judged, whole, behind) =
      let (h, written) = settled_by scope (form i) x back behind in
      (h, (word, i, flaw, back, judged, whole, written))
  settled_by scope (Either test a b) x marks (inl one) = let (h, written) = settled_by scope a x marks one in (h, inl written)
  settled_by scope (Either test a b) x marks (inr one) = let (h, written) = settled_by scope b x marks one in (h, inr written)
  settled_by scope (Many test form) xs marks h = each_settled form _ scope (λ k. settled_by scope (form k)) 0 xs marks h
  settled_by scope (Within over bracket a) x marks (start, end, between, is_start, is_end, whole, inner) =
      (inner.0, (start, end, between, is_start, is_end, whole, inner.1))
  settled_by scope (Part kind) x marks h = h
  settled_by scope (In into a) x marks h = settled_by (into scope) a x marks h

-- what is written with brackets and parts of any height is written at some height
pub settled : (room : ℕ) (scope : Scope) {A : Type 0} (form : Writing A) (x : A) (marks : List Mark)
    → SpelledBy (room == 0) (SomeInside (room - 1)) (SomePart room) scope form x marks → (height : ℕ) × Spelled height room scope form x marks
settled room scope form x marks h =
    settled_by (room == 0) (λ height. SpelledInside height (room - 1)) (λ height. SpelledPart height room)
    (λ low high le. higher_inside low high (room - 1) le) (λ low high le. higher_part low high room le) scope form x marks h

-- a thing of a kind, whose form has no part outside brackets
pub settled_part : (room : ℕ) (scope : Scope) (kind : Kind) (x : Meaning kind) (marks : List Mark)
    → SpelledBy (room == 0) (SomeInside (room - 1)) NoPart scope (form_of kind) x marks → SomePart room scope kind x marks
settled_part room scope kind x marks h =
    settled_by (room == 0) (λ height. SpelledInside height (room - 1)) (λ height. NoPart) (λ low high le. higher_inside low high (room - 1) le) (λ low high le s k y ms none. none)
    scope (form_of kind) x marks
    (also_by (room == 0) (SomeInside (room - 1)) (SomeInside (room - 1)) NoPart (λ s k y ms. (height : ℕ) × NoPart s k y ms) (λ s A a y ms one. one) (λ s k y ms none. absurd none)
    scope (form_of kind) x marks h)
