-- What is so of each thing that a row without a broken limit writes in a form: a law for each way to make a form.
use Rattle.mr_grammar.proofs.Common.{ℕ, Bool, ◌≡◌, None, false, true, refl, List, ◌==◌, ◌-◌, suc, [], ◌∷◌, subst, sym, Some, ◌∙◌, ap, inl, inr, ◌||◌, if◌then◌else◌, ◌++◌, zero, Option, AllByRecursion, Bracket, Mark, SpelledBy, EachSpelled, Empty, Then, Word, Cases, Either, Many, Within, In, Part, Scope, NoPart, SpelledInside, SpelledPart, form_of, limit, Kind, Meaning, Writing, Judged, word, token, giving, ◌▸◌, ◌◂◌, ◌▪◌, separated, optional, listed, IsFine}
use Rattle.mr_grammar.proofs.Walk.Rows.{fine_parts}

-- a limit that is not broken
pub unbroken : (code : ℕ) (broken : Bool) → limit code broken ≡ None → broken ≡ false
unbroken code true e = absurd (cc)
unbroken code false e = refl

-- what writes a part, where so many brackets may be open
abbrev pub Parts : Type 1
Parts = ℕ → Scope → (kind : Kind) → Meaning kind → List Mark → Type 0

-- no part stands there
abbrev pub no_parts : Parts
no_parts room = NoPart

-- What is in this form, where brackets nest so deep and so many may be open, and whose row breaks no limit, has the property.
pub record Ensures (height room : ℕ) (part : Parts) (scope : Scope) {A : Type 0} (form : Writing A) (Q : A → Type 0) : Type 0 where
  pub holds : (x : A) (marks : List Mark) → IsFine marks → SpelledBy (room == 0) (SpelledInside height (room - 1)) (part room) scope form x marks → Q x

-- the same of what stands inside a bracket
abbrev pub EnsuresInside : ℕ → ℕ → Scope → {A : Type 0} → Writing A → (A → Type 0) → Type 0
EnsuresInside height room scope form Q = (lower : ℕ) → height ≡ suc lower → Ensures lower (room - 1) (SpelledPart lower) scope form Q

-- things in a row, the first of which has this number
abbrev pub EachFrom : {A : Type 0} → (ℕ → A → Type 0) → ℕ → List A → Type 0
EachFrom P k [] = Unit {0}
EachFrom P k (x ∷ xs) = P k x × EachFrom P (suc k) xs

each_ensured : {A : Type 0} (spelled : ℕ → A → List Mark → Type 0) (P : ℕ → A → Type 0) → ((k : ℕ) (x : A) (marks : List Mark) → IsFine marks → spelled k x marks → P k x)
    → (k : ℕ) (xs : List A) (marks : List Mark) → IsFine marks → EachSpelled spelled k xs marks → EachFrom P k xs
each_ensured spelled P one k [] marks fine s = tt
each_ensured spelled P one k (x ∷ xs) marks fine (front, back, whole, first, others) =
    let good = fine_parts front back (rw whole at fine) in (one k x front good.0 first, each_ensured spelled P one (suc k) xs back good.1 others)

-- what is so of each thing, whatever its number
pub each_also : {A : Type 0} (P : ℕ → A → Type 0) (Q : A → Type 0) → ((k : ℕ) (x : A) → P k x → Q x) → (k : ℕ) (xs : List A) → EachFrom P k xs → AllByRecursion Q xs
each_also P Q law k [] each = tt
each_also P Q law k (x ∷ xs) each = (law k x each.0, each_also P Q law (suc k) xs each.1)

module _ {height room : ℕ} {part : Parts} {scope : Scope} where
  pub ensures_also : {A : Type 0} {form : Writing A} {P Q : A → Type 0} → Ensures height room part scope form P → ((x : A) → P x → Q x) → Ensures height room part scope form Q
  ensures_also one law = record { holds = λ x marks fine s. law x (one.holds x marks fine s) }

  pub ensures_any : {A : Type 0} {form : Writing A} → Ensures height room part scope form (λ x. Unit {0})
  ensures_any = record { holds = λ x marks fine s. tt }

  pub ensures_empty : {A : Type 0} {a : A} {Q : A → Type 0} → Q a → Ensures height room part scope (Empty a) Q
  ensures_empty {Q} q = record { holds = λ x marks fine s. subst Q (sym s.0) q }

  pub ensures_then : {A B C : Type 0} {f : A → B → C} {a : Writing A} {b : Writing B} {P : A → Type 0} {R : B → Type 0} {Q : C → Type 0}
      → Ensures height room part scope a P → Ensures height room part scope b R → ((x : A) (y : B) → P x → R y → Q (f x y)) → Ensures height room part scope (Then f a b) Q
  ensures_then {Q} one other both = record {
    holds = λ z marks fine (x, y, front, back, is_z, whole, first, second).
        (let good = fine_parts front back (rw whole at fine) in
        subst Q (sym is_z) (both x y (one.holds x front good.0 first) (other.holds y back good.1 second)));
  }

  pub ensures_cases : {I A : Type 0} {judge : Scope → Word → Judged I} {form : I → Writing A} {Q : A → Type 0}
      → ((w : Word) (i : I) → judge scope w ≡ Some (i, None) → Ensures height room part scope (form i) Q) → Ensures height room part scope (Cases judge form) Q
  ensures_cases {I} {judge} law = record {
    holds = λ x marks fine (w, i, flaw, back, judged, whole, behind).
        (let good : IsFine (record { word = w; flaw = flaw } ∷ back) = rw whole at fine in
        (law w i (judged ∙ ap (λ f. Some (i, f)) good.0)).holds x back good.1 behind);
  }

  pub ensures_either : {A : Type 0} {test : List ℕ → Bool} {a b : Writing A} {Q : A → Type 0}
      → Ensures height room part scope a Q → Ensures height room part scope b Q → Ensures height room part scope (Either test a b) Q
  ensures_either {A} {test} {a} {b} {Q} one other = record { holds = go }
    where
      go : (x : A) (marks : List Mark) → IsFine marks → SpelledBy (room == 0) (SpelledInside height (room - 1)) (part room) scope (Either test a b) x marks → Q x
      go x marks fine (inl s) = one.holds x marks fine s
      go x marks fine (inr s) = other.holds x marks fine s

  pub ensures_many : {A : Type 0} {test : List ℕ → Bool} {form : ℕ → Writing A} {P : ℕ → A → Type 0}
      → ((k : ℕ) → Ensures height room part scope (form k) (P k)) → Ensures height room part scope (Many test form) (EachFrom P 0)
  ensures_many {P} law = record { holds = λ xs marks fine s. each_ensured _ P (λ k x front good first. (law k).holds x front good first) 0 xs marks fine s }

  pub ensures_all : {A : Type 0} {test : List ℕ → Bool} {form : ℕ → Writing A} {P : A → Type 0}
      → ((k : ℕ) → Ensures height room part scope (form k) P) → Ensures height room part scope (Many test form) (AllByRecursion P)
  ensures_all {P} law = ensures_also (ensures_many law) (λ xs each. each_also (λ k. P) P (λ k x p. p) 0 xs each)

  -- something in brackets, of which the opening one is not one too many
  pub ensures_bracket : {A : Type 0} {over : Bool} {bracket : Bracket} {a : Writing A} {P Q : A → Type 0}
      → EnsuresInside height room scope a P → ((x : A) → (over || (room == 0)) ≡ false → P x → Q x) → Ensures height room part scope (Within over bracket a) Q
  unfolding SpelledInside
  ensures_bracket {A} {over} {bracket} {a} {P} {Q} law one = record {
    holds = λ x marks fine (start, end, between, is_start, is_end, whole, inner).
        (let good : IsFine (record { word = start; flaw = if over || (room == 0) then Some 7 else None } ∷ between ++ record { word = end; flaw = None } ∷ []) = rw whole at fine in
        one x (unbroken 7 (over || (room == 0)) good.0) (inside height law x between (fine_parts between (record { word = end; flaw = None } ∷ []) good.1).0 inner));
  }
    where
      inside : (deep : ℕ) → EnsuresInside deep room scope a P → (x : A) (marks : List Mark) → IsFine marks → SpelledInside deep (room - 1) scope A a x marks → P x
      inside zero law x marks fine s = absurd s
      inside (suc deep) law x marks fine s = (law deep refl).holds x marks fine s

  pub ensures_within : {A : Type 0} {over : Bool} {bracket : Bracket} {a : Writing A} {Q : A → Type 0}
      → EnsuresInside height room scope a Q → Ensures height room part scope (Within over bracket a) Q
  ensures_within law = ensures_bracket law (λ x some q. q)

  pub ensures_in : {A : Type 0} {into : Scope → Scope} {a : Writing A} {Q : A → Type 0} → Ensures height room part (into scope) a Q → Ensures height room part scope (In into a) Q
  ensures_in law = record { holds = λ x marks fine s. law.holds x marks fine s }

  -- the pieces
  pub ensures_word : {text : List ℕ} → Ensures height room part scope (word text) (λ u. Unit {0})
  ensures_word = ensures_cases (λ w i e. ensures_empty tt)

  pub ensures_token : {I : Type 0} {judge : Word → Judged I} {Q : I → Type 0} → ((w : Word) (i : I) → judge w ≡ Some (i, None) → Q i) → Ensures height room part scope (token judge) Q
  ensures_token law = ensures_cases (λ w i e. ensures_empty (law w i e))

  pub ensures_giving : {A B : Type 0} {f : A → B} {a : Writing A} {P : A → Type 0} {Q : B → Type 0} → Ensures height room part scope a P → ((x : A) → P x → Q (f x))
      → Ensures height room part scope (giving f a) Q
  ensures_giving one law = ensures_then (ensures_empty {Q = λ u. Unit {0}} tt) one (λ u x p q. law x q)

  pub ensures_behind : {A : Type 0} {text : List ℕ} {a : Writing A} {Q : A → Type 0} → Ensures height room part scope a Q → Ensures height room part scope (text ▸ a) Q
  ensures_behind one = ensures_then ensures_word one (λ u x p q. q)

  pub ensures_before : {A : Type 0} {a : Writing A} {text : List ℕ} {Q : A → Type 0} → Ensures height room part scope a Q → Ensures height room part scope (a ◂ text) Q
  ensures_before one = ensures_then one ensures_word (λ x u p q. p)

  pub ensures_pair : {A B : Type 0} {a : Writing A} {b : Writing B} {P : A → Type 0} {R : B → Type 0} → Ensures height room part scope a P → Ensures height room part scope b R
      → Ensures height room part scope (a ▪ b) (λ x. P x.0 × R x.1)
  ensures_pair one other = ensures_then one other (λ x y p r. (p, r))

  pub ensures_separated : {A : Type 0} {a : Writing A} {P : A → Type 0} → Ensures height room part scope a P → Ensures height room part scope (separated a) (AllByRecursion P)
  ensures_separated one = ensures_then one (ensures_all (λ k. ensures_behind one)) (λ x xs p ps. (p, ps))

  pub ensures_optional : {A : Type 0} {text : List ℕ} {a : Writing A} {P : A → Type 0} {Q : Option A → Type 0} → Ensures height room part scope a P → ((x : A) → P x → Q (Some x)) → Q None
      → Ensures height room part scope (optional text a) Q
  ensures_optional one law none = ensures_either (ensures_giving (ensures_behind one) law) (ensures_empty none)

-- a part, where it is known what its form ensures
pub ensures_part : {height room : ℕ} {scope : Scope} {kind : Kind} {Q : Meaning kind → Type 0} → Ensures height room no_parts scope (form_of kind) Q → Ensures height room (SpelledPart height) scope (Part kind) Q
ensures_part law = record { holds = λ x marks fine s. law.holds x marks fine s }

-- a list in brackets
pub ensures_listed : {height room : ℕ} {part : Parts} {scope : Scope} {A : Type 0} {bracket : Bracket} {some : Writing (List A)} {P : A → Type 0}
    → EnsuresInside height room scope some (AllByRecursion P) → Ensures height room part scope (listed bracket some) (AllByRecursion P)
ensures_listed law = ensures_within (λ lower e. ensures_either (law lower e) (ensures_empty tt))

-- what is so at a height where it is so at all lower ones
pub by_height {ℓ} : (P : ℕ → ℕ → Type ℓ) → ((height room : ℕ) → ((lower : ℕ) → height ≡ suc lower → P lower (room - 1)) → P height room)
    → (height room : ℕ) → P height room
by_height P step zero room = step zero room (λ lower e. absurd (cc))
by_height P step (suc height) room =
    step (suc height) room (λ lower e. (let same : height ≡ lower = cc in subst (λ h. P h (room - 1)) same (by_height P step height (room - 1))))
