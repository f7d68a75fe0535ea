-- The first rule that a program breaks is what is told of it.
use Rattle.std.proofs.Common.{◌≡◌, ap, ◌∙◌, sym, subst, List, [], ◌∷◌}
use Rattle.std.specs.Prelude.{Some, Result, slice_get}
use Rattle.mr_ast.specs.declared.program.Program.{Program}
use Rattle.mr_typing.specs.declared.fault.FormFault.{FormFault}
use Rattle.mr_typing.specs.Walk.{FirstBroken, WellFormed, faults_of}
use Rattle.mr_input.specs.declared.written.Written.{Written}
use Rattle.mr_input.specs.declared.refusal.Refusal.{Refusal}
use Rattle.mr_input.specs.Answer.{Answer, form_answer, form_or, Tells}

pub first_told : (p : Program) (faults : List FormFault) (fault : FormFault) (a : Answer) → slice_get faults 0 ≡ Some fault → form_or p faults a ≡ form_answer p fault
first_told p [] fault a h = absurd (cc)
first_told p (f ∷ faults) fault a h = let same : f ≡ fault = cc in ap (form_answer p) same

-- the line that was made of the program as it was handed back
pub broken_told : (p q : Program) (fault : FormFault) (a : Answer) (result : Result Written Refusal) → (q ≡ p) × FirstBroken p fault → Tells (form_answer q fault) result
    → Tells (form_or p (faults_of p) a) result
broken_told p q fault a result (same, first) tells =
    subst (λ b. Tells b result) (ap (λ r. form_answer r fault) same ∙ sym (first_told p (faults_of p) fault a first)) tells

-- a checked program is answered as itself
pub checked_told : (p q : Program) (say : Program → Answer) (result : Result Written Refusal) → (q ≡ p) × WellFormed p → Tells (say q) result → Tells (form_or p (faults_of p) (say p)) result
checked_told p q say result (same, well) tells =
    subst (λ (a : Answer). Tells a result) (ap say same ∙ sym (ap (λ faults. form_or p faults (say p)) well.unbroken)) tells
