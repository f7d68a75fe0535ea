-- What is known where a run went on.
use Rattle.mr_plan.proofs.Common.{◌≡◌, refl, subst, Result, Ok, Err, Reason, Outcome, Went, same_state, same_value}

-- what holds at the values of one outcome holds at those of another that is the same
pub at_outcome : {A W : Type 0} {a b : A} {v w : W} → Went a v ≡ Went b w → (C : A → W → Type 0) → C a v → C b w
at_outcome {a = a} {w = w} h C c = subst (λ x. C x w) (same_value h) (subst (λ x. C a x) (same_state h) c)

-- a result with which a run goes on
pub record HasResult {X A S : Type 0} (r : Result X Reason) (go : Result X Reason → Outcome A S) (a : A) (s : S) : Type 0 where
  pub result : X
  pub is : r ≡ Ok result
  pub goes : go (Ok result) ≡ Went a s

-- a run that goes on with no fault has a result
pub has_result : {X A S : Type 0} (r : Result X Reason) (go : Result X Reason → Outcome A S) (a : A) (s : S)
    → ((e : Reason) → go (Err e) ≡ Went a s → ⊥) → go r ≡ Went a s → HasResult r go a s
has_result (Ok x) go a s never h = record { result = x; is = refl; goes = h }
has_result (Err e) go a s never h = absurd (never e h)
