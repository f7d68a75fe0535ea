-- A written type that breaks no rule is well-formed.
use Rattle.mr_wf.proofs.Common.{◌≡◌, refl, Option, None, Some, Result, Ok, Err, Rule, Ty, sound_type}
use Rattle.mr_layout.specs.TypeOk.{TypeOk, broken_rule}

pub sound_ok : (t : Ty) → sound_type t ≡ Ok tt → TypeOk t
sound_ok t e = go (broken_rule t) e
  where
    go : (o : Option Rule) → (elim o as (λ _. Result (Unit {0}) Rule) [ None ↦ Ok tt | Some broken ↦ Err broken ]) ≡ Ok tt → o ≡ None
    go None h = refl
    go (Some broken) h = absurd (cc)
