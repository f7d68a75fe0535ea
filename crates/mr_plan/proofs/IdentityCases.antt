-- Two identities are one, or differ.
use Rattle.mr_plan.proofs.Common.{◌≡◌, ◌≢◌, ap, ◌⊎◌, inl, inr, cases_eq, AllocId}

pub id_cases : (a b : AllocId) → (a ≡ b) ⊎ (a ≢ b)
id_cases a b =
    elim (cases_eq a.thread b.thread) [
      | inl t ↦ elim (cases_eq a.count b.count) [
        | inl c ↦ inl (λ i. record { thread = t i; count = c i })
        | inr n ↦ inr (λ e. n (ap (λ (w : AllocId). w.count) e))
      ]
      | inr n ↦ inr (λ e. n (ap (λ (w : AllocId). w.thread) e))
    ]
