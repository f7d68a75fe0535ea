-- Refusals that are told.
use Rattle.std.proofs.Common.{◌≡◌, ℕ, ap, List, ◌⊎◌, inl, inr, refl}
use Rattle.std.specs.Prelude.{Option, Result, Err}
use Rattle.mr_input.specs.declared.refusal.Refusal.{Refusal}
use Rattle.mr_input.specs.declared.refusal.Refusal.TheVariants as refusal
use Rattle.mr_input.specs.Answer.{Answer, Tells, refused, told}
use Rattle.mr_input.specs.Inputs.{Gives}
use Rattle.mr_input.specs.Writing.{IsLeft, IsRefusedOrLeft, IsWritten}

pub same_refusal : {A : Type 0} {r s : Refusal} → ◌≡◌ {A = Result A Refusal} (Err r) (Err s) → r ≡ s
same_refusal e = cc

-- a refusal is what the answer says, unless memory ran out
pub refusal_told : (answer : Answer) (r : Refusal) → Tells answer (Err r) → (r ≡ refusal.Memory) ⊎ (answer ≡ refused r)
refusal_told answer refusal.Memory h = inl refl
refusal_told answer refusal.ReadProgram h = inr h
refusal_told answer (refusal.Text at col code) h = inr h
refusal_told answer refusal.ReadSchedule h = inr h
refusal_told answer refusal.ReadTrace h = inr h
refusal_told answer (refusal.Trace at code) h = inr h
refusal_told answer (refusal.Schedule at code earlier) h = inr h

-- what refuses a text is told
pub refused_over : {A : Type 0} (say : A → Answer) (defined : Result A Refusal) (r : Refusal) → Gives {A = A} (Err r) defined
    → Tells (told say defined) (Err r)
refused_over say defined refusal.Memory h = tt
refused_over say defined refusal.ReadProgram h = ap (told say) h
refused_over say defined (refusal.Text at col code) h = ap (told say) h
refused_over say defined refusal.ReadSchedule h = ap (told say) h
refused_over say defined refusal.ReadTrace h = ap (told say) h
refused_over say defined (refusal.Trace at code) h = ap (told say) h
refused_over say defined (refusal.Schedule at code earlier) h = ap (told say) h

-- nothing was written, or the line of a refusal that isn't for want of memory
module _ (rose : Type 0) (old new : Option (List ℕ)) (status : ℕ) where
  pub left_or_written : (r : Refusal) → IsRefusedOrLeft r rose old new status
      → IsLeft old new status ⊎ ((r ≡ refusal.Memory → ⊥) × IsWritten (refused r) rose old new status)
  left_or_written refusal.Memory h = inl h
  left_or_written refusal.ReadProgram (inl h) = inl h
  left_or_written refusal.ReadProgram (inr h) = inr ((λ e. absurd (cc)), h)
  left_or_written (refusal.Text at col code) (inl h) = inl h
  left_or_written (refusal.Text at col code) (inr h) = inr ((λ e. absurd (cc)), h)
  left_or_written refusal.ReadSchedule (inl h) = inl h
  left_or_written refusal.ReadSchedule (inr h) = inr ((λ e. absurd (cc)), h)
  left_or_written refusal.ReadTrace (inl h) = inl h
  left_or_written refusal.ReadTrace (inr h) = inr ((λ e. absurd (cc)), h)
  left_or_written (refusal.Trace at code) (inl h) = inl h
  left_or_written (refusal.Trace at code) (inr h) = inr ((λ e. absurd (cc)), h)
  left_or_written (refusal.Schedule at code earlier) (inl h) = inl h
  left_or_written (refusal.Schedule at code earlier) (inr h) = inr ((λ e. absurd (cc)), h)

-- the status of what was written, or that of a failed write
pub written_status : (a : Answer) (rose : Type 0) (old new : Option (List ℕ)) (status : ℕ) → IsWritten a rose old new status
    → (status ≡ a.status) ⊎ (rose × (status ≡ 7))
written_status a rose old new status (inl h) = inl h.0
written_status a rose old new status (inr h) = inr (h.1, h.0)
