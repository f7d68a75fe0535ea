-- When a form can be read from left to right, a word at a time.
use Rattle.mr_grammar.proofs.Common.{Bool, true, false, ◌&&◌, ◌||◌, ◌⊎◌, Option, ℕ, ◌≡◌, Some, Form, Empty, Then, Cases, Either, Many, Within, Part, In, Word, opening, closing}

-- a demand where something holds, and one that it holds and more
abbrev pub When : Bool → Type 0 → Type 0
When true T = T
When false T = Unit {0}

abbrev pub Only : Bool → Type 0 → Type 0
Only true T = T
Only false T = ⊥

module _ {S P : Type 0} {M : P → Type 0} where
  -- whether no word may write a thing
  abbrev pub is_nullable : {A : Type 0} → Form S P M A → Bool
  is_nullable (Empty a) = true
  is_nullable (Then f a b) = is_nullable a && is_nullable b
  is_nullable (Cases judge form) = false
  is_nullable (Either test a b) = is_nullable a || is_nullable b
  is_nullable (Many test form) = true
  is_nullable (Within over bracket a) = false
  is_nullable (Part p) = false
  is_nullable (In into a) = is_nullable a

  -- the words with which a thing may begin; of parts another relation says it
  abbrev pub Begins : (P → Word → Type 0) → {A : Type 0} → Form S P M A → Word → Type 0
  Begins part (Empty a) w = ⊥
  Begins part (Then f a b) w = Begins part a w ⊎ Only (is_nullable a) (Begins part b w)
  Begins part (Cases {I} judge form) w = (scope : S) × (i : I) × (flaw : Option ℕ) × (judge scope w ≡ Some (i, flaw))
  Begins part (Either test a b) w = Begins part a w ⊎ Begins part b w
  Begins part (Many test form) w = (k : ℕ) × Begins part (form k) w
  Begins part (Within over bracket a) w = w.text ≡ opening bracket
  Begins part (Part p) w = part p w
  Begins part (In into a) w = Begins part a w

  -- the words behind a thing that no reader takes for more of it
  abbrev pub Stops : (P → Word → Type 0) → {A : Type 0} → Form S P M A → Word → Type 0
  Stops part (Empty a) w = Unit {0}
  Stops part (Then f a b) w = When (is_nullable b) (Stops part a w) × Stops part b w
  Stops part (Cases {I} judge form) w = (i : I) → Stops part (form i) w
  Stops part (Either test a b) w = When (is_nullable b) (test w.text ≡ false) × Stops part a w × Stops part b w
  Stops part (Many test form) w = (test w.text ≡ false) × ((k : ℕ) → Stops part (form k) w)
  Stops part (Within over bracket a) w = Unit {0}
  Stops part (Part p) w = part p w
  Stops part (In into a) w = Stops part a w

  -- each choice is told by the next word
  abbrev pub IsPredictive : (begins stops : P → Word → Type 0) → {A : Type 0} → Form S P M A → Type 0
  IsPredictive begins stops (Empty a) = Unit {0}
  IsPredictive begins stops (Then f a b) =
      IsPredictive begins stops a × IsPredictive begins stops b × ((w : Word) → Begins begins b w → Stops stops a w)
  IsPredictive begins stops (Cases {I} judge form) = (i : I) → IsPredictive begins stops (form i)
  IsPredictive begins stops (Either test a b) =
      IsPredictive begins stops a × IsPredictive begins stops b × (is_nullable a ≡ false)
      × ((w : Word) → Begins begins a w → test w.text ≡ true) × ((w : Word) → Begins begins b w → test w.text ≡ false)
  IsPredictive begins stops (Many test form) =
      ((k : ℕ) → IsPredictive begins stops (form k)) × ((k : ℕ) → is_nullable (form k) ≡ false)
      × ((k : ℕ) (w : Word) → Begins begins (form k) w → test w.text ≡ true)
      × ((j k : ℕ) (w : Word) → Begins begins (form j) w → Stops stops (form k) w)
  IsPredictive begins stops (Within over bracket a) =
      IsPredictive begins stops a × ((w : Word) → w.text ≡ closing bracket → Stops stops a w)
  IsPredictive begins stops (Part p) = Unit {0}
  IsPredictive begins stops (In into a) = IsPredictive begins stops a
