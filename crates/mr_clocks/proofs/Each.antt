-- What holds of each element of a list holds of each where one joins them, or takes the place of another.
use Rattle.mr_clocks.proofs.Common.{◌≡◌, ℕ, ◌<◌, List, [], ◌∷◌, ◌++◌, length, length-append, get_or, set, sym, ◌∙◌, ap, subst, arith, get_or-set_other, get_or-set_same, get_or_append_left, get_or_push, length-set, ℕ_discrete}

pub each_pushed : {A : Type 0} (P : A → Type 0) (none x : A) (old new : List A) → new ≡ old ++ x ∷ [] → ((i : ℕ) → i < length old → P (get_or old i none)) → P x → (i : ℕ) → i < length new → P (get_or new i none)
each_pushed P none x old new e all own = λ i lt.
    elim (ℕ_discrete i (length old)) [
      | yes is ↦ subst P (sym (ap (λ l. get_or l i none) e ∙ get_or_push old x none i (sym is))) own
      | no ne ↦
          let long = ap length e in
          let low : i < length old = omega (arith, lt, ne, long, length-append old (x ∷ [])) in
          subst P (sym (ap (λ l. get_or l i none) e ∙ get_or_append_left old (x ∷ []) none i low)) (all i low)
    ]

pub each_set : {A : Type 0} (P : A → Type 0) (none x : A) (old : List A) (k : ℕ) → k < length old → ((i : ℕ) → i < length old → P (get_or old i none)) → P x → (i : ℕ) → i < length (set old k x) → P (get_or (set old k x) i none)
each_set P none x old k inside all own = λ i lt.
    elim (ℕ_discrete i k) [
      | yes is ↦ subst P (sym (ap (λ (q : ℕ). get_or (set old k x) q none) is ∙ get_or-set_same old k x none inside)) own
      | no ne ↦
          let low : i < length old = omega (arith, lt, length-set old k x) in
          subst P (sym (get_or-set_other old k i x none ne)) (all i low)
    ]
