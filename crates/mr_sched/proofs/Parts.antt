-- The parts of a text between the bytes at which it is cut.
use Rattle.mr_sched.proofs.Common.{◌≡◌, ◌≢◌, ℕ, ◌+◌, ◌<◌, ◌≤◌, Bool, true, false, cond, eqb, ltb, List, [], ◌∷◌, ◌++◌, length, take, drop, Some, None, refl, arith, inl, inr, AllByRecursion, ltb-true, ltb-false, ne_eqb, eq-eqb, cases_Bool, cond_some, parts_at}
use Rattle.std.proofs.Common.{All}
use Rattle.std.specs.Prelude.{position}
use Rattle.std.specs.List.{position_or_len}
use Rattle.std.proofs.lemmas.List.Elements.{All-from_recursion}
use Rattle.std.proofs.lemmas.List.Sums.{fails_before_first}
use Rattle.std.proofs.lemmas.List.Splits.{slice_split_none, slice_split_first, slice_split_at}
use Rattle.mr_sched.proofs.FirstLines.{HasFirst}

-- no such byte in the text
abbrev pub IsFreeOf : ℕ → List ℕ → Type 0
IsFreeOf c text = AllByRecursion (λ b. b ≢ c) text

fails_free : (c : ℕ) (text : List ℕ) → IsFreeOf c text → AllByRecursion (λ b. eqb b c ≡ false) text
fails_free c [] free = tt
fails_free c (b ∷ text) free = (ne_eqb b c free.0, fails_free c text free.1)

all_fail : (c : ℕ) (text : List ℕ) → IsFreeOf c text → All (λ b. eqb b c ≡ false) text
all_fail c text free = All-from_recursion _ text (fails_free c text free)

-- a text without the byte is one part
pub parts_at-free : (c : ℕ) (text : List ℕ) → IsFreeOf c text → parts_at c text ≡ text ∷ []
parts_at-free c text free = slice_split_none _ text (all_fail c text free)

-- the first part ends at the first byte
pub parts_at-append : (c : ℕ) (part more : List ℕ) → IsFreeOf c part → parts_at c (part ++ c ∷ more) ≡ part ∷ parts_at c more
parts_at-append c part more free = slice_split_at (λ b. eqb b c) part c more (all_fail c part free) (eq-eqb c c refl)

cond_none : {A : Type 0} (b : Bool) (x : A) → cond b (Some x) None ≡ None → b ≡ false
cond_none true x e = absurd cc
cond_none false x e = refl

pub parts_at-position_none : (c : ℕ) (text : List ℕ) → position (λ b. eqb b c) text ≡ None → parts_at c text ≡ text ∷ []
parts_at-position_none c text e =
    let p = λ (b : ℕ). eqb b c in
    let past : length text ≤ position_or_len p text = ltb-false _ _ (cond_none (ltb (position_or_len p text) (length text)) _ e) in
    slice_split_none p text (λ k d lt. fails_before_first p text k d (omega arith))

pub parts_at-position_some : (c : ℕ) (text : List ℕ) (at : ℕ) → position (λ b. eqb b c) text ≡ Some at → (at < length text) × (parts_at c text ≡ take at text ∷ parts_at c (drop (at + 1) text))
parts_at-position_some c text at e =
    let p = λ (b : ℕ). eqb b c in
    let q = cond_some (ltb (position_or_len p text) (length text)) (position_or_len p text) at e in
    let lt : position_or_len p text < length text = ltb-true _ _ q.0 in
    rw (← q.1) (lt, slice_split_first p text 0 lt)

-- there is a first part
pub parts_at-first : (c : ℕ) (text : List ℕ) → HasFirst (parts_at c text)
parts_at-first c [] = ([], [], refl)
parts_at-first c (b ∷ text) =
    let p = parts_at-first c text in
    elim (cases_Bool (eqb b c)) [
      | inl t ↦ ([], parts_at c text, rw t refl)
      | inr f ↦ (b ∷ p.0, p.1, rw (f, p.2) refl)
    ]
