-- How a form that was answered ends.
use Rattle.mr_show.proofs.Common.{◌≡◌, ℕ, ap, sym, List, ◌⊎◌, inl, inr, Some, Option, Err, Ok, Refusal, Written, refused, same_refusal, answer_of, Bare, CheckedProgram, CheckedSchedule, Form, Help, Hunted, Shown, Why, Ends, IsPossible}
use Rattle.mr_io.specs.Files.{Contents}
use Rattle.mr_input.specs.Answer.{seen}
use Rattle.mr_input.specs.Writing.{IsLeft, IsRefusedOrLeft, IsWritten}
use Rattle.mr_input.proofs.RefusedLaws.{left_or_written, refusal_told}
use Rattle.mr_show.specs.Answering.{IsAnswered}
use Rattle.mr_input.specs.declared.refusal.Refusal.TheVariants as refusal

module _ (files : Contents) (files_rose out_rose : Type 0) (old new : Option (List ℕ)) (status : ℕ) where
  pub written_ends : (form : Form) (a : Written) → IsAnswered files form files_rose (Ok a)
      → IsWritten (seen a) out_rose old new status → Ends files (Some form) files_rose out_rose old new status
  written_ends (Shown saying program schedule) a (inl tells) written = inr (seen a, inl tells, written)
  written_ends (Shown saying program schedule) a (inr (rose, inl e)) written = absurd (cc)
  written_ends (Shown saying program schedule) a (inr (rose, inr (asks, e))) written = absurd (cc)
  written_ends (Hunted range seek name program) a (inl tells) written = inr (seen a, inl tells, written)
  written_ends (Hunted range seek name program) a (inr (rose, e)) written = absurd (cc)
  written_ends (Bare alone trace) a (inl tells) written = inr (seen a, inl tells, written)
  written_ends (Bare alone trace) a (inr (rose, e)) written = absurd (cc)
  written_ends (CheckedProgram name program) a (inl tells) written = inr (seen a, inl tells, written)
  written_ends (CheckedProgram name program) a (inr (rose, e)) written = absurd (cc)
  written_ends (CheckedSchedule name title program schedule) a (inl tells) written = inr (seen a, inl tells, written)
  written_ends (CheckedSchedule name title program schedule) a (inr (rose, inl e)) written = absurd (cc)
  written_ends (CheckedSchedule name title program schedule) a (inr (rose, inr e)) written = absurd (cc)
  written_ends (Why code) a tells written = inr (seen a, inl tells, written)
  written_ends (Help text) a tells written = inr (seen a, inl tells, written)

  -- a refusal that is defined
  is_defined : (form : Form) (r : Refusal) → IsAnswered files form files_rose (Err r)
      → (r ≡ refusal.Memory) ⊎ IsPossible files form files_rose (refused r)
  is_defined (Shown saying program schedule) r (inl tells) =
      elim (refusal_told (answer_of files (Some (Shown saying program schedule))) r tells)
      [ inl e ↦ inl e | inr e ↦ inr (inl (sym e)) ]
  is_defined (Shown saying program schedule) r (inr (rose, inl e)) = inr (inr (rose, inl (ap refused (same_refusal e))))
  is_defined (Shown saying program schedule) r (inr (rose, inr (asks, e))) =
      inr (inr (rose, inr (asks, ap refused (same_refusal e))))
  is_defined (Hunted range seek name program) r (inl tells) =
      elim (refusal_told (answer_of files (Some (Hunted range seek name program))) r tells)
      [ inl e ↦ inl e | inr e ↦ inr (inl (sym e)) ]
  is_defined (Hunted range seek name program) r (inr (rose, e)) = inr (inr (rose, ap refused (same_refusal e)))
  is_defined (Bare alone trace) r (inl tells) =
      elim (refusal_told (answer_of files (Some (Bare alone trace))) r tells)
      [ inl e ↦ inl e | inr e ↦ inr (inl (sym e)) ]
  is_defined (Bare alone trace) r (inr (rose, e)) = inr (inr (rose, ap refused (same_refusal e)))
  is_defined (CheckedProgram name program) r (inl tells) =
      elim (refusal_told (answer_of files (Some (CheckedProgram name program))) r tells)
      [ inl e ↦ inl e | inr e ↦ inr (inl (sym e)) ]
  is_defined (CheckedProgram name program) r (inr (rose, e)) = inr (inr (rose, ap refused (same_refusal e)))
  is_defined (CheckedSchedule name title program schedule) r (inl tells) =
      elim (refusal_told (answer_of files (Some (CheckedSchedule name title program schedule))) r tells)
      [ inl e ↦ inl e | inr e ↦ inr (inl (sym e)) ]
  is_defined (CheckedSchedule name title program schedule) r (inr (rose, inl e)) =
      inr (inr (rose, inl (ap refused (same_refusal e))))
  is_defined (CheckedSchedule name title program schedule) r (inr (rose, inr e)) =
      inr (inr (rose, inr (ap refused (same_refusal e))))
  is_defined (Why code) r tells =
      elim (refusal_told (answer_of files (Some (Why code))) r tells) [ inl e ↦ inl e | inr e ↦ inr (inl (sym e)) ]
  is_defined (Help text) r tells =
      elim (refusal_told (answer_of files (Some (Help text))) r tells) [ inl e ↦ inl e | inr e ↦ inr (inl (sym e)) ]

  pub refused_ends : (form : Form) (r : Refusal) → IsAnswered files form files_rose (Err r)
      → IsRefusedOrLeft r out_rose old new status → Ends files (Some form) files_rose out_rose old new status
  refused_ends form r answered ended = go (is_defined form r answered) (left_or_written out_rose old new status r ended)
    where
      go : (r ≡ refusal.Memory) ⊎ IsPossible files form files_rose (refused r)
          → IsLeft old new status ⊎ ((r ≡ refusal.Memory → ⊥) × IsWritten (refused r) out_rose old new status)
          → Ends files (Some form) files_rose out_rose old new status
      go defined (inl left) = inl left
      go (inl memory) (inr written) = absurd (written.0 memory)
      go (inr possible) (inr written) = inr (refused r, possible, written.1)
