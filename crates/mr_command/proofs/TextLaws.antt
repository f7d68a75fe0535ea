-- How a command is answered over texts that its files have, whatever they tell.
use Rattle.mr_command.proofs.Common.{◌≡◌, ℕ, ap, ◌∙◌, sym, subst, List, [], inl, inr, codes, Some, Option, Result, Ok, Err, Program, Read, WellFormed, Written, Format, Refusal, form_or, told, Tells, program_in, schedule_in, holding, IsRead, same_refusal, Saying, report_under, run_answer, said_answer, upgrade_answer}
use Rattle.mr_input.specs.Answer.{TellsOrUnread}
use Rattle.mr_input.proofs.RefusedLaws.{refused_over}
use Rattle.mr_command.specs.Answering.{IsFormOrReport, IsReported, IsSaid, IsUpgraded}
use Rattle.mr_input.specs.declared.refusal.Refusal.TheVariants as refusal

-- a checked program is answered by the report
pub checked_reported : (format : Format) (p q : Program) (file : Option (List ℕ)) (rose : Type 0) (result : Result Written Refusal) → (q ≡ p) × WellFormed p
    → TellsOrUnread rose (report_under format file q) result → IsFormOrReport rose format file p result
checked_reported format p q file rose result (same, well) (inl tells) =
    inl (subst (λ a. Tells a result) (ap (report_under format file) same ∙ sym (ap (λ faults. form_or p faults (report_under format file p)) well.unbroken)) tells)
checked_reported format p q file rose result (same, well) (inr (rises, is)) = inr (rises, well.unbroken, is)

-- a program that was read is answered by its run
pub run_over : (format : Format) (program schedule : List ℕ) (p : Program) (later rose : Type 0) (result : Result Written Refusal) → (later → rose) → program_in (Some program) ≡ Ok p
    → IsFormOrReport later format (Some schedule) p result → IsReported (holding program schedule) format (codes "program") (codes "schedule") rose result
run_over format program schedule p later rose result up e (inl tells) =
    inl (subst (λ r. Tells (told (run_answer format (Some schedule)) r) result) (sym e) tells)
run_over format program schedule p later rose result up e (inr (rises, unbroken, is)) = inr (up rises, inr (p, e, unbroken, is))

pub unread_over : (format : Format) (program : List ℕ) (r : Refusal) (rose : Type 0) → IsRead {A = Program} rose refusal.ReadProgram (Err r) (program_in (Some program))
    → IsReported (holding program []) format (codes "program") (codes "schedule") rose (Err r)
unread_over format program r rose (inl h) = inl (refused_over (run_answer format (Some [])) (program_in (Some program)) r h)
unread_over format program r rose (inr (rises, e)) = inr (rises, inl (ap Err (same_refusal e)))

pub unsaid_over : (saying : Saying) (program : List ℕ) (r : Refusal) (rose : Type 0) → IsRead {A = Program} rose refusal.ReadProgram (Err r) (program_in (Some program))
    → IsSaid saying (holding program []) (codes "program") rose (Err r)
unsaid_over saying program r rose (inl h) = inl (refused_over (said_answer saying) (program_in (Some program)) r h)
unsaid_over saying program r rose (inr (rises, e)) = inr (rises, ap Err (same_refusal e))

-- a schedule that was read is upgraded, and what refuses its text is told
pub upgraded_over : (schedule : List ℕ) (r : Read) (rose : Type 0) (result : Result Written Refusal) → schedule_in (Some schedule) ≡ Ok r → Tells (upgrade_answer r) result
    → IsUpgraded (holding [] schedule) (codes "schedule") rose result
upgraded_over schedule r rose result e tells = inl (subst (λ x. Tells (told upgrade_answer x) result) (sym e) tells)

pub not_upgraded_over : (schedule : List ℕ) (r : Refusal) (rose : Type 0) → IsRead {A = Read} rose refusal.ReadSchedule (Err r) (schedule_in (Some schedule))
    → IsUpgraded (holding [] schedule) (codes "schedule") rose (Err r)
not_upgraded_over schedule r rose (inl h) = inl (refused_over upgrade_answer (schedule_in (Some schedule)) r h)
not_upgraded_over schedule r rose (inr (rises, e)) = inr (rises, ap Err (same_refusal e))
