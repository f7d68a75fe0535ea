-- What is written in a form none of whose words may be a semicolon has none.
use Rattle.mr_places.proofs.Common.{◌≡◌, ℕ, zero, suc, ◌-◌, Bool, true, false, List, [], ◌∷◌, ◌++◌, codes, bytes_eq, Option, Some, None, refl, ap, sym, ◌∙◌, Word, Mark, Cases, Either, EachSpelled, Scope, Kind, Writing, form_of, SpelledInside, Spelled, is_end}
use Rattle.std.proofs.Common.{◌==◌, inl, inr}
use Rattle.std.specs.List.{AllByRecursion}
use Rattle.std.proofs.lemmas.Slice.Eq.{bytes_eq-Decides}
use Rattle.mr_ast.specs.declared.words.Bracket.{Bracket}
use Rattle.mr_ast.specs.declared.words.Bracket.TheVariants.{Round, Curly, Square}
use Rattle.mr_ast.specs.Forms.{Form, Empty, Then, Many, Within, Part, In, Spelling, SpelledBy, opening, closing}
use Rattle.mr_ast.specs.Spelled.{NoPart, SpelledPart}

-- no word of the row is a semicolon
abbrev pub IsFreeRow : List Mark → Type 0
IsFreeRow row = AllByRecursion (λ m. is_end m.word.text ≡ false) row

pub free-append : (front back : List Mark) → IsFreeRow front → IsFreeRow back → IsFreeRow (front ++ back)
free-append [] back a b = b
free-append (m ∷ front) back a b = (a.0, free-append front back a.1 b)

-- a semicolon, at some place of the text
abbrev pub end_at : ℕ → Word
end_at n = record { text = codes ";"; place = n }

-- a word that is judged to be something
other_word : {S I : Type 0} (judge : S → Word → Option (I × Option ℕ)) → ((scope : S) (n : ℕ) → judge scope (end_at n) ≡ None)
    → (scope : S) (w : Word) (found : I × Option ℕ) → judge scope w ≡ Some found → is_end w.text ≡ false
other_word judge none scope w found judged = go (is_end w.text) refl
  where
    go : (e : Bool) → is_end w.text ≡ e → is_end w.text ≡ false
    go false at = at
    go true at =
        let same : w.text ≡ codes ";" = (bytes_eq-Decides w.text (codes ";")).0 at in
        let nothing : judge scope w ≡ None = ap (λ t. judge scope (record { text = t; place = w.place })) same ∙ none scope w.place in
        let clash = sym judged ∙ nothing in absurd (cc)

pub opens_free : (bracket : Bracket) (w : Word) → w.text ≡ opening bracket → is_end w.text ≡ false
opens_free Round w e = ap is_end e
opens_free Curly w e = ap is_end e
opens_free Square w e = ap is_end e

pub closes_free : (bracket : Bracket) (w : Word) → w.text ≡ closing bracket → is_end w.text ≡ false
closes_free Round w e = ap is_end e
closes_free Curly w e = ap is_end e
closes_free Square w e = ap is_end e

each_free : {A : Type 0} (spelled : ℕ → A → List Mark → Type 0) → ((k : ℕ) (x : A) (marks : List Mark) → spelled k x marks → IsFreeRow marks)
    → (k : ℕ) (xs : List A) (marks : List Mark) → EachSpelled spelled k xs marks → IsFreeRow marks
each_free spelled law k [] marks e = rw e tt
each_free spelled law k (x ∷ xs) marks (front, back, whole, first, others) =
    rw whole (free-append front back (law k x front first) (each_free spelled law (suc k) xs back others))

-- a semicolon is judged to be nothing
module _ {S P : Type 0} {M : P → Type 0} where
  abbrev pub IsFree : {A : Type 0} → Form S P M A → Type 0
  IsFree (Empty a) = Unit {0}
  IsFree (Then f a b) = IsFree a × IsFree b
  IsFree (Cases {I} judge form) = ((scope : S) (n : ℕ) → judge scope (end_at n) ≡ None) × ((i : I) → IsFree (form i))
  IsFree (Either test a b) = IsFree a × IsFree b
  IsFree (Many test form) = (k : ℕ) → IsFree (form k)
  IsFree (Within over bracket a) = IsFree a
  IsFree (Part p) = Unit {0}
  IsFree (In into a) = IsFree a

  module _ (full : Bool) (inside : Spelling S P M) (part : S → (p : P) → M p → List Mark → Type 0)
      (law_in : (scope : S) (A : Type 0) (a : Form S P M A) → IsFree a → (x : A) (marks : List Mark) → inside scope A a x marks → IsFreeRow marks)
      (law_p : (scope : S) (kind : P) (x : M kind) (marks : List Mark) → part scope kind x marks → IsFreeRow marks) where
    pub free_by : (scope : S) {A : Type 0} (form : Form S P M A) → IsFree form → (x : A) (marks : List Mark) → SpelledBy full inside part scope form x marks → IsFreeRow marks
    free_by scope (Empty a) free x marks h = rw h.1 tt
    free_by scope (Then f a b) free z marks (x, y, front, back, is_z, whole, one, other) =
        rw whole (free-append front back (free_by scope a free.0 x front one) (free_by scope b free.1 y back other))
    free_by scope (Cases judge form) free x marks (word, i, flaw, back, judged, whole, behind) =
        rw whole (other_word judge free.0 scope word (i, flaw) judged, free_by scope (form i) (free.1 i) x back behind)
    free_by scope (Either test a b) free x marks (inl h) = free_by scope a free.0 x marks h
    free_by scope (Either test a b) free x marks (inr h) = free_by scope b free.1 x marks h
    free_by scope (Many test form) free xs marks h = each_free _ (λ k. free_by scope (form k) (free k)) 0 xs marks h
    free_by scope (Within {A} over bracket a) free x marks (start, end, between, is_start, is_end, whole, inner) =
        rw whole (opens_free bracket start is_start, free-append between _ (law_in scope A a free x between inner) (closes_free bracket end is_end, tt))
    free_by scope (Part kind) free x marks h = law_p scope kind x marks h
    free_by scope (In into a) free x marks h = free_by (into scope) a free x marks h

module _ (forms : (kind : Kind) → IsFree (form_of kind)) where
  pub free_inside : (height room : ℕ) (scope : Scope) (A : Type 0) (form : Writing A) → IsFree form → (x : A) (marks : List Mark) → SpelledInside height room scope A form x marks → IsFreeRow marks
  unfolding SpelledInside
  free_inside zero room scope A form free x marks h = absurd h
  free_inside (suc height) room scope A form free x marks h =
      free_by (room == 0) (SpelledInside height (room - 1)) _ (free_inside height (room - 1))
      (λ s kind. free_by (room == 0) (SpelledInside height (room - 1)) NoPart (free_inside height (room - 1)) (λ i k y ms no. absurd no) s (form_of kind) (forms kind)) scope form free x marks h

  -- what is written in such a form
  pub free_spelled : (height room : ℕ) (scope : Scope) {A : Type 0} (form : Writing A) → IsFree form → (x : A) (marks : List Mark) → Spelled height room scope form x marks → IsFreeRow marks
  free_spelled height room scope form free x marks h =
      free_by (room == 0) (SpelledInside height (room - 1)) (SpelledPart height room) (free_inside height (room - 1))
      (λ s kind. free_by (room == 0) (SpelledInside height (room - 1)) NoPart (free_inside height (room - 1)) (λ i k y ms no. absurd no) s (form_of kind) (forms kind)) scope form free x marks h
