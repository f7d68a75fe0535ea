-- The same words in two scopes, of which the other knows no names: what a row without a broken limit writes in the one, the same words write in the
-- other, and both things are related.
use Rattle.mr_grammar.proofs.Common.{◌⊎◌, inl, inr, List, ◌≡◌, None, ◌++◌, ℕ, ◌==◌, ◌-◌, [], ◌∷◌, suc, length, refl, ap, ◌∙◌, sym, Bool, true, if◌then◌else◌, ◌||◌, Some, zero, false, AllByRecursion, Bracket, Word, Mark, SpelledBy, EachSpelled, Spelling, Empty, Then, Either, Many, In, Within, Part, Cases, Scope, SpelledInside, SpelledPart, form_of, Writing, fine, Kind, Meaning, ◌▸◌, ◌◂◌, words_in, IsFine}
use Rattle.mr_grammar.proofs.Walk.EnsureLaws.{Parts, EachFrom, by_height, no_parts}
use Rattle.mr_grammar.proofs.Walk.Fair.{is_empty, IsUnknown, AreFair}
use Rattle.mr_grammar.proofs.Walk.FairForms.{forms_fair}
use Rattle.mr_grammar.proofs.Walk.FairJudges.{word_fair}
use Rattle.mr_grammar.proofs.Walk.Rows.{all_parts, words-append, fine-append}

either_way : {A B C : Type 0} → A ⊎ B → (A → C) → (B → C) → C
either_way (inl a) f g = f a
either_way (inr b) f g = g b

-- the words of a row are of a kind, and break no limit
abbrev pub AreGood : (Word → Type 0) → List Mark → Type 0
AreGood IsGood marks = AllByRecursion (λ m. (m.flaw ≡ None) × IsGood m.word) marks

good_parts : (IsGood : Word → Type 0) (front back : List Mark) → AreGood IsGood (front ++ back) → AreGood IsGood front × AreGood IsGood back
good_parts IsGood front back good = all_parts (λ m. (m.flaw ≡ None) × IsGood m.word) front back good

-- the same words write a thing that is so, and break no limit
abbrev pub Again : {A : Type 0} → (A → List Mark → Type 0) → (A → Type 0) → List Mark → Type 0
Again {A} writes R marks = (y : A) × (others : List Mark) × (words_in others ≡ words_in marks) × IsFine others × writes y others × R y

-- what words of a kind write in one scope they write in the other, and both things are related
pub record Renames (IsGood : Word → Type 0) (height room : ℕ) (part : Parts) (s t : Scope) {A : Type 0} (form : Writing A) (R : A → A → Type 0) : Type 0 where
  pub holds : (x : A) (marks : List Mark) → AreGood IsGood marks → SpelledBy (room == 0) (SpelledInside height (room - 1)) (part room) s form x marks
      → Again (SpelledBy (room == 0) (SpelledInside height (room - 1)) (part room) t form) (R x) marks

-- things in a row, related one by one; the first two have this number
abbrev pub EachTwo : {A : Type 0} → (ℕ → A → A → Type 0) → ℕ → List A → List A → Type 0
EachTwo R k [] [] = Unit {0}
EachTwo R k [] (y ∷ ys) = ⊥
EachTwo R k (x ∷ xs) [] = ⊥
EachTwo R k (x ∷ xs) (y ∷ ys) = R k x y × EachTwo R (suc k) xs ys

-- what is so of two empty rows, and stays so where two more are related
pub each_two {ℓ} : {A : Type 0} (R : ℕ → A → A → Type 0) (P : ℕ → List A → List A → Type ℓ) → ((k : ℕ) → P k [] [])
    → ((k : ℕ) (x y : A) (xs ys : List A) → R k x y → P (suc k) xs ys → P k (x ∷ xs) (y ∷ ys)) → (k : ℕ) (xs ys : List A) → EachTwo R k xs ys → P k xs ys
each_two R P none more k [] [] each = none k
each_two R P none more k [] (y ∷ ys) each = absurd each
each_two R P none more k (x ∷ xs) [] each = absurd each
each_two R P none more k (x ∷ xs) (y ∷ ys) each = more k x y xs ys each.0 (each_two R P none more (suc k) xs ys each.1)

pub each_length : {A : Type 0} (R : ℕ → A → A → Type 0) (k : ℕ) (xs ys : List A) → EachTwo R k xs ys → length xs ≡ length ys
each_length R = each_two R (λ k xs ys. length xs ≡ length ys) (λ k. refl) (λ k x y xs ys one same. ap suc same)

-- what follows for each two, and for each one
pub each_two_also : {A : Type 0} (R Q : ℕ → A → A → Type 0) → ((k : ℕ) (x y : A) → R k x y → Q k x y) → (k : ℕ) (xs ys : List A) → EachTwo R k xs ys → EachTwo Q k xs ys
each_two_also R Q law = each_two R (EachTwo Q) (λ k. tt) (λ k x y xs ys one more. (law k x y one, more))

pub each_from : {A : Type 0} (R : ℕ → A → A → Type 0) (Q : ℕ → A → Type 0) → ((k : ℕ) (x y : A) → R k x y → Q k x) → (k : ℕ) (xs ys : List A) → EachTwo R k xs ys → EachFrom Q k xs
each_from R Q law = each_two R (λ k xs ys. EachFrom Q k xs) (λ k. tt) (λ k x y xs ys one more. (law k x y one, more))

-- where the first is left out, the others have the next numbers
pub each_later : {A : Type 0} (R : ℕ → A → A → Type 0) (k : ℕ) (xs ys : List A) → EachTwo (λ j. R (suc j)) k xs ys → EachTwo R (suc k) xs ys
each_later R = each_two (λ j. R (suc j)) (λ k. EachTwo R (suc k)) (λ k. tt) (λ k x y xs ys one more. (one, more))

-- one row behind another
words_joined : (front front' back back' whole : List Mark) → whole ≡ front ++ back → words_in front' ≡ words_in front → words_in back' ≡ words_in back
    → words_in (front' ++ back') ≡ words_in whole
words_joined front front' back back' whole is same sames =
    words-append front' back' ∙ (λ i. same i ++ sames i) ∙ sym (words-append front back) ∙ ap words_in (sym is)

each_again : {A : Type 0} (IsGood : Word → Type 0) (R : ℕ → A → A → Type 0) (one other : ℕ → A → List Mark → Type 0)
    → ((k : ℕ) (x : A) (marks : List Mark) → AreGood IsGood marks → one k x marks → Again (other k) (R k x) marks)
    → (k : ℕ) (xs : List A) (marks : List Mark) → AreGood IsGood marks → EachSpelled one k xs marks → Again (EachSpelled other k) (EachTwo R k xs) marks
each_again IsGood R one other law k [] marks good e = ([], [], ap words_in (sym e), tt, refl, tt)
each_again IsGood R one other law k (x ∷ xs) marks good (front, back, whole, first, more) =
    let parts = good_parts IsGood front back (rw whole at good) in
    let (y, front', same, fine, written, related) = law k x front parts.0 first in
    let (ys, back', sames, fines, writtens, each) = each_again IsGood R one other law (suc k) xs back parts.1 more in (
      y ∷ ys,
      front' ++ back',
      words_joined front front' back back' marks whole same sames,
      fine-append front' back' fine fines,
      (front', back', refl, written, writtens),
      (related, each),
    )

-- no word writes a thing in a form behind which nothing stands
module _ (full : Bool) (inside : Spelling Scope Kind Meaning) (part : Scope → (kind : Kind) → Meaning kind → List Mark → Type 0) (s : Scope) where
  empty_writes : {A : Type 0} (a : Writing A) → is_empty a ≡ true → (x : A) (marks : List Mark) → SpelledBy full inside part s a x marks → marks ≡ []
  empty_writes (Empty a) e x marks h = h.1
  empty_writes _ e x marks h = absurd (cc)

  empty_written : {A : Type 0} (a : Writing A) → is_empty a ≡ true → (x : A) × SpelledBy full inside part s a x []
  empty_written (Empty a) e = (a, (refl, refl))
  empty_written _ e = absurd (cc)

module _ {IsGood : Word → Type 0} {height room : ℕ} {part : Parts} {s t : Scope} where
  pub renames_then : {A B C : Type 0} {f : A → B → C} {a : Writing A} {b : Writing B} {R : A → A → Type 0} {Q : B → B → Type 0} {T : C → C → Type 0}
      → Renames IsGood height room part s t a R → Renames IsGood height room part s t b Q
      → ((x x' : A) (y y' : B) → R x x' → Q y y' → T (f x y) (f x' y')) → Renames IsGood height room part s t (Then f a b) T
  renames_then {f} {T} one other both = record {
    holds = λ z marks good (x, y, front, back, is_z, whole, first, second).
        (let parts = good_parts IsGood front back (rw whole at good) in
        let (x', front', same, fine, written, r) = one.holds x front parts.0 first in
        let (y', back', sames, fines, writtens, q) = other.holds y back parts.1 second in (
          f x' y',
          front' ++ back',
          words_joined front front' back back' marks whole same sames,
          fine-append front' back' fine fines,
          (x', y', front', back', refl, refl, written, writtens),
          rw is_z (both x x' y y' r q),
        ));
  }

  pub renames_many : {A : Type 0} {test : List ℕ → Bool} {form : ℕ → Writing A} {R : ℕ → A → A → Type 0} → ((k : ℕ) → Renames IsGood height room part s t (form k) (R k))
      → Renames IsGood height room part s t (Many test form) (EachTwo R 0)
  renames_many {R} law = record { holds = λ xs marks good h. each_again IsGood R _ _ (λ k. (law k).holds) 0 xs marks good h }

  pub renames_in : {A : Type 0} {into : Scope → Scope} {a : Writing A} {R : A → A → Type 0} → Renames IsGood height room part (into s) (into t) a R
      → Renames IsGood height room part s t (In into a) R
  renames_in law = record { holds = λ x marks good h. law.holds x marks good h }

  pub renames_within : {A : Type 0} {over : Bool} {bracket : Bracket} {a : Writing A} {R : A → A → Type 0}
      → ((lower : ℕ) → height ≡ suc lower → Renames IsGood lower (room - 1) (SpelledPart lower) s t a R) → Renames IsGood height room part s t (Within over bracket a) R
  unfolding SpelledInside
  renames_within {A} {over} {bracket} {a} {R} law = record {
    holds = λ x marks good (start, end, between, is_start, is_end, whole, inner).
        (let last : List Mark = record { word = end; flaw = None } ∷ [] in
        let first : List Mark = record { word = start; flaw = if over || (room == 0) then Some 7 else None } ∷ [] in
        let row : AreGood IsGood (first ++ between ++ last) = rw whole at good in
        let (y, between', same, fine, written, r) = inside height law x between (good_parts IsGood between last row.1).0 inner in (
          y,
          first ++ between' ++ last,
          words_joined first first (between ++ last) (between' ++ last) marks whole refl (words_joined between between' last last (between ++ last) refl same refl),
          (row.0.0, fine-append between' last fine (refl, tt)),
          (start, end, between', is_start, is_end, refl, written),
          r,
        ));
  }
    where
      inside : (deep : ℕ) → ((lower : ℕ) → deep ≡ suc lower → Renames IsGood lower (room - 1) (SpelledPart lower) s t a R) → (x : A) (marks : List Mark) → AreGood IsGood marks
          → SpelledInside deep (room - 1) s A a x marks → Again (SpelledInside deep (room - 1) t A a) (R x) marks
      inside zero law x marks good h = absurd h
      inside (suc deep) law x marks good h = (law deep refl).holds x marks good h

-- both things are there
abbrev pub Both : {A : Type 0} → A → A → Type 0
Both x y = Unit {0}

-- what is asked of the parts and of what stands in brackets
abbrev pub InnerAgain : (Word → Type 0) → ℕ → ℕ → Type 1
InnerAgain IsGood height room = (s t : Scope) → IsUnknown t → (A : Type 0) (a : Writing A) → AreFair true a → Renames IsGood height room (SpelledPart height) s t a Both

module _ (IsGood : Word → Type 0) (height room : ℕ) (part : Parts) (outside : Bool) (inner : (lower : ℕ) → height ≡ suc lower → InnerAgain IsGood lower (room - 1))
    (parts : outside ≡ true → (s t : Scope) → IsUnknown t → (kind : Kind) → Renames IsGood height room part s t (Part kind) Both) where
  again_by : (s t : Scope) → IsUnknown t → {A : Type 0} (form : Writing A) → AreFair outside form → Renames IsGood height room part s t form Both
  again_by s t unknown (Empty a) fair = record { holds = λ x marks good h. (a, [], ap words_in (sym h.1), tt, (refl, refl), tt) }
  again_by s t unknown (Then f a b) fair = renames_then (again_by s t unknown a fair.0) (again_by s t unknown b fair.1) (λ x x' y y' p q. tt)
  again_by s t unknown (Cases {I} judge form) fair = record {
    holds = λ x marks good (w, i, flaw, back, judged, whole, behind).
        (let row : AreGood IsGood (record { word = w; flaw = flaw } ∷ back) = rw whole at good in
        let (j, there, choice) = fair.0.again s t unknown w i (judged ∙ ap (λ f. Some (i, f)) row.0.0) in
        either_way choice
        (λ same. (let (y, back', sames, fines, written, r) = (again_by s t unknown (form i) (fair.1 i)).holds x back row.1 behind in (
          y,
          record { word = w; flaw = None } ∷ back',
          ap (λ ws. w ∷ ws) sames ∙ ap words_in (sym whole),
          (refl, fines),
          (w, i, None, back', there ∙ ap (λ k. Some (k, None)) same, refl, written),
          tt,
        )))
        (λ (here, empty). (let (y, written) = empty_written (room == 0) (SpelledInside height (room - 1)) (part room) t (form j) empty in
        let none = empty_writes (room == 0) (SpelledInside height (room - 1)) (part room) s (form i) here x back behind in
        (y, record { word = w; flaw = None } ∷ [], ap (λ ms. w ∷ words_in ms) (sym none) ∙ ap words_in (sym whole), (refl, tt), (w, j, None, [], there, refl, written), tt))));
  }
  again_by s t unknown (Either test a b) fair = record {
    holds = λ x marks good h. either_way h
        (λ one. (let (y, others, same, fine, written, r) = (again_by s t unknown a fair.0).holds x marks good one in (y, others, same, fine, inl written, r)))
        (λ one. (let (y, others, same, fine, written, r) = (again_by s t unknown b fair.1).holds x marks good one in (y, others, same, fine, inr written, r)));
  }
  again_by s t unknown (Many test form) fair = record {
    holds = λ xs marks good h.
        (let (ys, others, same, fine, written, each) = (renames_many {test = test} (λ k. again_by s t unknown (form k) (fair k))).holds xs marks good h in (ys, others, same, fine, written, tt));
  }
  again_by s t unknown (Within {A} over bracket a) fair = renames_within (λ lower e. inner lower e s t unknown A a fair)
  again_by s t unknown (Part kind) fair = parts fair s t unknown kind
  again_by s t unknown (In into a) fair = renames_in (again_by (into s) (into t) (fair.0 t unknown) a fair.1)

-- What a row without a broken limit writes in a form the same words write where no names are known.
pub all_again : (IsGood : Word → Type 0) (height room : ℕ) → InnerAgain IsGood height room
all_again IsGood = by_height (InnerAgain IsGood) (λ height room inner s t unknown A a fair.
    again_by IsGood height room (SpelledPart height) true inner (λ outside u v none kind. record {
      holds = (again_by IsGood height room no_parts false inner (λ clash. absurd (cc)) u v none (form_of kind) (forms_fair false kind)).holds;
    }) s t unknown a fair)

module _ {IsGood : Word → Type 0} {height room : ℕ} {s t : Scope} (unknown : IsUnknown t) where
  pub renames_any : {A : Type 0} {form : Writing A} → AreFair true form → Renames IsGood height room (SpelledPart height) s t form Both
  renames_any {A} {form} fair = all_again IsGood height room s t unknown A form fair

  -- something behind a word, and before one
  pub renames_behind : {A : Type 0} {text : List ℕ} {a : Writing A} {R : A → A → Type 0} → Renames IsGood height room (SpelledPart height) s t a R
      → Renames IsGood height room (SpelledPart height) s t (text ▸ a) R
  renames_behind {text = text} one = renames_then (renames_any (word_fair true text)) one (λ u v x y p q. q)

  pub renames_before : {A : Type 0} {a : Writing A} {text : List ℕ} {R : A → A → Type 0} → Renames IsGood height room (SpelledPart height) s t a R
      → Renames IsGood height room (SpelledPart height) s t (a ◂ text) R
  renames_before {text = text} one = renames_then one (renames_any (word_fair true text)) (λ x y u v p q. p)
