-- A hunt over a file, as it is answered.
use Rattle.mr_show.proofs.Common.{◌≡◌, ap, List, ℕ, ◌⊎◌, inl, inr, [], subst, sym, ◌∙◌, Err, Ok, Option, None, Result, Some, Program, parsed, TextFault, FormFault, WellFormed, Refusal, Written, Answer, Tells, form_or, told, Gives, IsNoText, denoted, program_in, refused_over, same_refusal, hunt_answer, hunted_file, hunted_program}
use Rattle.mr_show.specs.Seek.{Seek}
use Rattle.mr_show.specs.declared.form.Range.{Range}
use Rattle.mr_show.specs.Answering.{IsHunted}
use Rattle.mr_show.specs.Hunted.{hunted_text}

module _ (range : Range) (seek : Seek) (name : List ℕ) where
  -- a program that breaks no rule is answered by its runs
  pub hunt_checked : (text : List ℕ) (p q : Program) (result : Result Written Refusal) → (q ≡ p) × WellFormed p
      → Tells (hunt_answer range seek name text q) result → Tells (hunted_program range seek name text p) result
  hunt_checked text p q result (same, well) tells =
      subst (λ (a : Answer). Tells a result)
      (ap (hunt_answer range seek name text) same
      ∙ sym (ap (λ (faults : List FormFault). form_or p faults (hunt_answer range seek name text p)) well.unbroken))
      tells

  -- a text that was parsed is answered by its program
  pub hunt_parsed : (text : List ℕ) (p : Program) (result : Result Written Refusal) → parsed text ≡ Ok p
      → Tells (hunted_program range seek name text p) result → Tells (hunted_text range seek name text) result
  hunt_parsed text p result e tells =
      subst (λ (r : Result Program TextFault). Tells (told (hunted_program range seek name text) (denoted r)) result)
      (sym e) tells

  -- what refuses a text is told
  pub hunt_refused : (text : List ℕ) (r : Refusal) → Gives {A = Program} (Err r) (denoted (parsed text))
      → Tells (hunted_text range seek name text) (Err r)
  hunt_refused text r h = refused_over (hunted_program range seek name text) (denoted (parsed text)) r h

  -- a file that was read is answered by its text
  pub hunt_read : (rose : Type 0) (file : Option (List ℕ)) (text bytes : List ℕ) (result : Result Written Refusal)
      → file ≡ Some bytes → text ≡ bytes → Tells (hunted_text range seek name text) result
      → IsHunted rose range seek name file result
  hunt_read rose file text bytes result there same tells =
      inl (subst (λ (f : Option (List ℕ)). Tells (hunted_file range seek name f) result) (ap Some same ∙ sym there)
      tells)

  -- what refuses the file is told, or its read failed
  hunt_untold : (file : Option (List ℕ)) (r : Refusal) → Gives {A = Program} (Err r) (program_in file)
      → Tells (hunted_file range seek name file) (Err r)
  hunt_untold None r h = refused_over (hunted_program range seek name []) (program_in None) r h
  hunt_untold (Some text) r h = refused_over (hunted_program range seek name text) (denoted (parsed text)) r h

  pub hunt_unread : (rose : Type 0) (file : Option (List ℕ)) (r : Refusal) → IsNoText rose file r
      → IsHunted rose range seek name file (Err r)
  hunt_unread rose file r (inl h) = inl (hunt_untold file r h)
  hunt_unread rose file r (inr (rises, e)) = inr (rises, ap Err (same_refusal e))
