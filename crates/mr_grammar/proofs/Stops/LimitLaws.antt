-- No mark of a row has the code 4: that is the code of a word that cannot stand where it stands.
use Rattle.mr_grammar.proofs.Common.{List, ◌≡◌, Some, ◌++◌, ℕ, [], ◌∷◌, suc, Bool, true, ◌∙◌, ap, inl, inr, ◌||◌, None, Option, if◌then◌else◌, false, zero, ◌==◌, ◌-◌, AllByRecursion, Mark, EachSpelled, Spelling, SpelledBy, Empty, Then, Cases, Either, Many, Within, Part, In, Scope, SpelledInside, SpelledPart, NoPart, form_of, Spelled, Kind, Meaning, Writing}
use Rattle.mr_grammar.proofs.Walk.Fair.{AreFair}
use Rattle.mr_grammar.proofs.Walk.FairForms.{forms_fair}
use Rattle.mr_grammar.proofs.Walk.Rows.{all_append}

-- no mark of the row has the code 4
abbrev pub Keeps : List Mark → Type 0
Keeps marks = AllByRecursion (λ m. m.flaw ≡ Some 4 → ⊥) marks

keeps-append : (front back : List Mark) → Keeps front → Keeps back → Keeps (front ++ back)
keeps-append front back a b = all_append (λ m. m.flaw ≡ Some 4 → ⊥) front back a b

each_keeps : {A : Type 0} (spelled : ℕ → A → List Mark → Type 0) → ((k : ℕ) (x : A) (marks : List Mark) → spelled k x marks → Keeps marks)
    → (k : ℕ) (xs : List A) (marks : List Mark) → EachSpelled spelled k xs marks → Keeps marks
each_keeps spelled item k [] marks s = rw s tt
each_keeps spelled item k (x ∷ xs) marks s = rw s.2 (keeps-append s.0 s.1 (item k x s.0 s.3) (each_keeps spelled item (suc k) xs s.1 s.4))

-- where what stands in brackets and the parts have none
module _ (full : Bool) (inside : Spelling Scope Kind Meaning) (part : Scope → (kind : Kind) → Meaning kind → List Mark → Type 0)
    (parts : (scope : Scope) (kind : Kind) (x : Meaning kind) (marks : List Mark) → part scope kind x marks → Keeps marks)
    (within : (scope : Scope) (A : Type 0) (form : Writing A) (x : A) (marks : List Mark) → AreFair true form → inside scope A form x marks → Keeps marks) where
  keeps_by : (outside : Bool) (scope : Scope) {A : Type 0} (form : Writing A) (x : A) (marks : List Mark) → AreFair outside form
      → SpelledBy full inside part scope form x marks → Keeps marks
  keeps_by outside scope (Empty a) x marks fair s = rw s.1 tt
  keeps_by outside scope (Then f a b) z marks fair s =
      rw s.5 (keeps-append s.2 s.3 (keeps_by outside scope a s.0 s.2 fair.0 s.6) (keeps_by outside scope b s.1 s.3 fair.1 s.7))
  keeps_by outside scope (Cases judge form) x marks fair s =
      rw s.5 ((λ e. fair.0.plain scope s.0 s.1 (s.4 ∙ ap (λ flaw. Some (s.1, flaw)) e)), keeps_by outside scope (form s.1) x s.3 (fair.1 s.1) s.6)
  keeps_by outside scope (Either test a b) x marks fair (inl s) = keeps_by outside scope a x marks fair.0 s
  keeps_by outside scope (Either test a b) x marks fair (inr s) = keeps_by outside scope b x marks fair.1 s
  keeps_by outside scope (Many test form) xs marks fair s =
      each_keeps (λ k. SpelledBy full inside part scope (form k)) (λ k y front t. keeps_by outside scope (form k) y front (fair k) t) 0 xs marks s
  keeps_by outside scope (Within {A} over bracket a) x marks fair s =
      rw s.5 (go (over || full), keeps-append s.2 (record { word = s.1; flaw = None } ∷ []) (within scope A a x s.2 fair s.6) ((λ e. absurd (cc)), tt))
    where
      go : (closed : Bool) → ◌≡◌ {A = Option ℕ} (if closed then Some 7 else None) (Some 4) → ⊥
      go true e = absurd (cc)
      go false e = absurd (cc)
  keeps_by outside scope (Part kind) x marks fair s = parts scope kind x marks s
  keeps_by outside scope (In into a) x marks fair s = keeps_by outside (into scope) a x marks fair.1 s

keeps_inside : (height room : ℕ) (scope : Scope) (A : Type 0) (form : Writing A) (x : A) (marks : List Mark) → AreFair true form
    → SpelledInside height room scope A form x marks → Keeps marks
unfolding SpelledInside
keeps_inside zero room scope A form x marks fair s = absurd s
keeps_inside (suc height) room scope A form x marks fair s =
    keeps_by (room == 0) (SpelledInside height (room - 1)) (SpelledPart height room)
    (λ inner kind y front t. keeps_by (room == 0) (SpelledInside height (room - 1)) NoPart (λ i k z m absent. absurd absent)
    (keeps_inside height (room - 1)) false inner (form_of kind) y front (forms_fair false kind) t)
    (keeps_inside height (room - 1)) true scope form x marks fair s

pub row_keeps : (height room : ℕ) (scope : Scope) {A : Type 0} (form : Writing A) (x : A) (marks : List Mark) → AreFair true form
    → Spelled height room scope form x marks → Keeps marks
unfolding SpelledInside
row_keeps height room scope {A} form x marks fair s = keeps_inside (suc height) room scope A form x marks fair s
