-- What is asked of the judges of a form: the words that they take, the limits that they find broken, and what they say where no names are known.
use Rattle.mr_grammar.proofs.Common.{◌≡◌, None, Bool, true, false, Option, ℕ, Some, ◌⊎◌, Empty, Then, Cases, Either, Many, Within, Part, In, Word, Scope, Writing, Judged}

-- a scope in which no definitions are known
abbrev pub IsUnknown : Scope → Type 0
IsUnknown s = s.known ≡ None

-- whether no word is behind the choice
abbrev pub is_empty : {A : Type 0} → Writing A → Bool
is_empty (Empty a) = true
is_empty (Then f a b) = false
is_empty (Cases judge form) = false
is_empty (Either test a b) = false
is_empty (Many test form) = false
is_empty (Within over bracket a) = false
is_empty (Part p) = false
is_empty (In into a) = false

-- The judge takes some word in each scope, and finds no limit broken that has the code 4. A word that breaks no limit it takes for the same
-- thing where no names are known, or for another, and then nothing stands behind either.
pub record IsFair {I : Type 0} (judge : Scope → Word → Judged I) (empty : I → Bool) : Type 0 where
  pub takes : (scope : Scope) → (w : Word) × (i : I) × (flaw : Option ℕ) × (judge scope w ≡ Some (i, flaw))
  pub plain : (scope : Scope) (w : Word) (i : I) → judge scope w ≡ Some (i, Some 4) → ⊥
  pub again : (s t : Scope) → IsUnknown t → (w : Word) (i : I) → judge s w ≡ Some (i, None)
      → (j : I) × (judge t w ≡ Some (j, None)) × ((j ≡ i) ⊎ (empty i ≡ true) × (empty j ≡ true))

-- all judges of the form are fair; and whether parts may stand outside brackets
abbrev pub AreFair : Bool → {A : Type 0} → Writing A → Type 0
AreFair parts (Empty a) = Unit {0}
AreFair parts (Then f a b) = AreFair parts a × AreFair parts b
AreFair parts (Cases {I} judge form) = IsFair judge (λ i. is_empty (form i)) × ((i : I) → AreFair parts (form i))
AreFair parts (Either test a b) = AreFair parts a × AreFair parts b
AreFair parts (Many test form) = (k : ℕ) → AreFair parts (form k)
AreFair parts (Within over bracket a) = AreFair true a
AreFair parts (Part p) = parts ≡ true
AreFair parts (In into a) = ((t : Scope) → IsUnknown t → IsUnknown (into t)) × AreFair parts a
