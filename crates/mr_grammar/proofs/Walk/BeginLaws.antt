-- With which words the rows begin that write something in a form.
use Rattle.mr_grammar.proofs.Common.{List, [], ◌≡◌, true, ◌∷◌, ◌++◌, refl, inr, inl, ℕ, Bool, ◌⊎◌, suc, Word, Form, Mark, Then, Either, In, EachSpelled, Many, Spelling, Part, SpelledBy, Empty, Cases, Within}
use Rattle.std.proofs.Math.Bool.{or-true}
use Rattle.mr_grammar.proofs.Walk.Conditions.{is_nullable, Begins}

module _ {S P : Type 0} {M : P → Type 0} (begins : P → Word → Type 0) where
  -- the first word of a row begins the thing; where the row is empty, the thing needs no word
  abbrev pub Opens : {A : Type 0} → Form S P M A → List Mark → Type 0
  Opens form [] = is_nullable form ≡ true
  Opens form (m ∷ marks) = Begins begins form m.word

  opens_then : {A B C : Type 0} (f : A → B → C) (a : Form S P M A) (b : Form S P M B) (front back : List Mark)
      → Opens a front → Opens b back → Opens (Then f a b) (front ++ back)
  opens_then f a b [] [] p q = rw (p, q) refl
  opens_then f a b [] (m ∷ back) p q = inr (rw p q)
  opens_then f a b (m ∷ front) back p q = inl p

  opens_either : {A : Type 0} (test : List ℕ → Bool) (a b : Form S P M A) (marks : List Mark) → Opens a marks ⊎ Opens b marks → Opens (Either test a b) marks
  opens_either test a b [] (inl p) = rw p refl
  opens_either test a b [] (inr p) = rw p (or-true (is_nullable a))
  opens_either test a b (m ∷ marks) p = p

  opens_in : {A : Type 0} (into : S → S) (a : Form S P M A) (marks : List Mark) → Opens a marks → Opens (In into a) marks
  opens_in into a [] p = p
  opens_in into a (m ∷ marks) p = p

  -- things in a row
  pub each_opens : {A : Type 0} (test : List ℕ → Bool) (form : ℕ → Form S P M A) (spelled : ℕ → A → List Mark → Type 0)
      → ((k : ℕ) (x : A) (marks : List Mark) → spelled k x marks → Opens (form k) marks)
      → (k : ℕ) (xs : List A) (marks : List Mark) → EachSpelled spelled k xs marks → Opens (Many test form) marks
  each_opens test form spelled item k [] marks s = rw s refl
  each_opens test form spelled item k (x ∷ xs) marks (front, back, whole, one, others) =
      rw whole (go front (item k x front one) (each_opens test form spelled item (suc k) xs back others))
    where
      go : (front : List Mark) → Opens (form k) front → Opens (Many test form) back → Opens (Many test form) (front ++ back)
      go [] p more = more
      go (m ∷ front) p more = (k, p)

  module _ (full : Bool) (inside : Spelling S P M) (part : S → (p : P) → M p → List Mark → Type 0)
      (opens_p : (scope : S) (p : P) (x : M p) (marks : List Mark) → part scope p x marks → Opens (Part p) marks) where
    -- a row opens with the form in which it writes something, where it does so with each part
    pub spelled_opens : (scope : S) {A : Type 0} (form : Form S P M A) (x : A) (marks : List Mark) → SpelledBy full inside part scope form x marks → Opens form marks
    spelled_opens scope (Empty a) x marks s = rw s.1 refl
    spelled_opens scope (Then f a b) z marks (x, y, front, back, is, whole, one, other) =
        rw whole (opens_then f a b front back (spelled_opens scope a x front one) (spelled_opens scope b y back other))
    spelled_opens scope (Cases judge form) x marks (w, i, flaw, back, judged, whole, behind) = rw whole (scope, i, flaw, judged)
    spelled_opens scope (Either test a b) x marks (inl s) = opens_either test a b marks (inl (spelled_opens scope a x marks s))
    spelled_opens scope (Either test a b) x marks (inr s) = opens_either test a b marks (inr (spelled_opens scope b x marks s))
    spelled_opens scope (Many test form) xs marks s = each_opens test form _ (λ k. spelled_opens scope (form k)) 0 xs marks s
    spelled_opens scope (Within over bracket a) x marks (start, end, between, is_start, is_end, whole, one) = rw whole is_start
    spelled_opens scope (Part p) x marks s = opens_p scope p x marks s
    spelled_opens scope (In into a) x marks s = opens_in into a marks (spelled_opens (into scope) a x marks s)
