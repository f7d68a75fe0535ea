-- How a command that was answered ends.
use Rattle.mr_command.proofs.Common.{◌≡◌, ℕ, ap, ◌∙◌, sym, arith, List, ◌++◌, length, ◌⊎◌, inl, inr, refl, Some, Option, Ok, Err, Contents, Written, Refusal, Command, OfNumber, OfProgram, OfSchedule, OfTrace, Run, refused, Tells, answer_of, IsLeft, IsRefusedOrLeft, IsWritten, Ends, IsPossible, same_refusal}
use Rattle.std.proofs.Common.{◌+◌}
use Rattle.std.proofs.lemmas.List.{length-append}
use Rattle.mr_input.specs.Answer.{seen}
use Rattle.mr_command.specs.Answering.{IsAnswered}
use Rattle.mr_input.specs.Refusals.{refusal_text}
use Rattle.mr_input.proofs.RefusedLaws.{left_or_written, refusal_told}
use Rattle.mr_input.specs.declared.refusal.Refusal.TheVariants as refusal

module _ (files : Contents) (files_rose out_rose : Type 0) (old new : Option (List ℕ)) (status : ℕ) where
  pub written_ends : (command : Command) (a : Written) → IsAnswered files command files_rose (Ok a) → IsWritten (seen a) out_rose old new status
      → Ends files (Some command) files_rose out_rose old new status
  written_ends (Run format program schedule) a (inl tells) written = inr (seen a, inl tells, written)
  written_ends (Run format program schedule) a (inr (rose, inl e)) written = absurd (cc)
  written_ends (Run format program schedule) a (inr (rose, inr (p, read, unbroken, e))) written = absurd (cc)
  written_ends (OfProgram saying program) a (inl tells) written = inr (seen a, inl tells, written)
  written_ends (OfProgram saying program) a (inr (rose, e)) written = absurd (cc)
  written_ends (OfSchedule schedule) a (inl tells) written = inr (seen a, inl tells, written)
  written_ends (OfSchedule schedule) a (inr (rose, e)) written = absurd (cc)
  written_ends (OfTrace trace) a (inl tells) written = inr (seen a, inl tells, written)
  written_ends (OfTrace trace) a (inr (rose, e)) written = absurd (cc)
  written_ends (OfNumber number) a tells written = inr (seen a, inl tells, written)

  -- a refusal that is defined
  told_defined : (command : Command) (r : Refusal) → Tells (answer_of files (Some command)) (Err r) → (r ≡ refusal.Memory) ⊎ IsPossible files (Some command) files_rose (refused r)
  told_defined command r tells = elim (refusal_told (answer_of files (Some command)) r tells) [ inl e ↦ inl e | inr e ↦ inr (inl (sym e)) ]

  is_defined : (command : Command) (r : Refusal) → IsAnswered files command files_rose (Err r) → (r ≡ refusal.Memory) ⊎ IsPossible files (Some command) files_rose (refused r)
  is_defined (Run format program schedule) r (inl tells) = told_defined (Run format program schedule) r tells
  is_defined (Run format program schedule) r (inr (rose, inl e)) = inr (inr (rose, inl (ap refused (same_refusal e))))
  is_defined (Run format program schedule) r (inr (rose, inr (p, read, unbroken, e))) = inr (inr (rose, inr (p, read, unbroken, ap refused (same_refusal e))))
  is_defined (OfProgram saying program) r (inl tells) = told_defined (OfProgram saying program) r tells
  is_defined (OfProgram saying program) r (inr (rose, e)) = inr (inr (rose, ap refused (same_refusal e)))
  is_defined (OfSchedule schedule) r (inl tells) = told_defined (OfSchedule schedule) r tells
  is_defined (OfSchedule schedule) r (inr (rose, e)) = inr (inr (rose, ap refused (same_refusal e)))
  is_defined (OfTrace trace) r (inl tells) = told_defined (OfTrace trace) r tells
  is_defined (OfTrace trace) r (inr (rose, e)) = inr (inr (rose, ap refused (same_refusal e)))
  is_defined (OfNumber number) r tells = told_defined (OfNumber number) r tells

  pub refused_ends : (command : Command) (r : Refusal) → IsAnswered files command files_rose (Err r) → IsRefusedOrLeft r out_rose old new status
      → Ends files (Some command) files_rose out_rose old new status
  refused_ends command r answered ended = go (is_defined command r answered) (left_or_written out_rose old new status r ended)
    where
      go : (r ≡ refusal.Memory) ⊎ IsPossible files (Some command) files_rose (refused r)
          → IsLeft old new status ⊎ ((r ≡ refusal.Memory → ⊥) × IsWritten (refused r) out_rose old new status) → Ends files (Some command) files_rose out_rose old new status
      go defined (inl left) = inl left
      go (inl memory) (inr written) = absurd (written.0 memory)
      go (inr possible) (inr written) = inr (refused r, possible, written.1)

-- ---- which file was not read

same_some : {A : Type 0} {x y : A} → Some x ≡ Some y → x ≡ y
same_some e = cc

-- the lines of the reads that fail have 13, 14 and 11 bytes
other_line : (taken : List ℕ) → ◌≡◌ {A = Option (List ℕ)} (Some (taken ++ refusal_text refusal.ReadSchedule)) (Some (taken ++ refusal_text refusal.ReadProgram)) → ⊥
other_line taken e =
    let schedule : length (taken ++ refusal_text refusal.ReadSchedule) ≡ length taken + 14 = length-append taken (refusal_text refusal.ReadSchedule) in
    let program : length (taken ++ refusal_text refusal.ReadProgram) ≡ length taken + 13 = length-append taken (refusal_text refusal.ReadProgram) in
    let same : length (taken ++ refusal_text refusal.ReadSchedule) ≡ length (taken ++ refusal_text refusal.ReadProgram) = ap length (same_some e) in
    absurd (omega arith)

trace_line : (taken : List ℕ) → ◌≡◌ {A = Option (List ℕ)} (Some (taken ++ refusal_text refusal.ReadTrace)) (Some (taken ++ refusal_text refusal.ReadProgram)) → ⊥
trace_line taken e =
    let trace : length (taken ++ refusal_text refusal.ReadTrace) ≡ length taken + 11 = length-append taken (refusal_text refusal.ReadTrace) in
    let program : length (taken ++ refusal_text refusal.ReadProgram) ≡ length taken + 13 = length-append taken (refusal_text refusal.ReadProgram) in
    let same : length (taken ++ refusal_text refusal.ReadTrace) ≡ length (taken ++ refusal_text refusal.ReadProgram) = ap length (same_some e) in
    absurd (omega arith)

module _ (rose : Type 0) (taken : List ℕ) (new : Option (List ℕ)) (status : ℕ) (six : status ≡ 6) (line : new ≡ Some (taken ++ refusal_text refusal.ReadProgram)) where
  -- where a read of the program is told, that is what refuses
  pub program_unread : (r : Refusal) → IsRefusedOrLeft r rose (Some taken) new status → r ≡ refusal.ReadProgram
  program_unread refusal.ReadProgram h = refl
  program_unread refusal.Memory h = let eight = h.0 in absurd (omega arith)
  program_unread (refusal.Text at col code) (inl h) = let eight = h.0 in absurd (omega arith)
  program_unread (refusal.Text at col code) (inr (inl h)) = let three : status ≡ 3 = h.0 in absurd (omega arith)
  program_unread (refusal.Text at col code) (inr (inr h)) = let seven = h.0 in absurd (omega arith)
  program_unread refusal.ReadSchedule (inl h) = let eight = h.0 in absurd (omega arith)
  program_unread refusal.ReadSchedule (inr (inl h)) = absurd (other_line taken (sym h.1 ∙ line))
  program_unread refusal.ReadSchedule (inr (inr h)) = let seven = h.0 in absurd (omega arith)
  program_unread refusal.ReadTrace (inl h) = let eight = h.0 in absurd (omega arith)
  program_unread refusal.ReadTrace (inr (inl h)) = absurd (trace_line taken (sym h.1 ∙ line))
  program_unread refusal.ReadTrace (inr (inr h)) = let seven = h.0 in absurd (omega arith)
  program_unread (refusal.Trace at code) (inl h) = let eight = h.0 in absurd (omega arith)
  program_unread (refusal.Trace at code) (inr (inl h)) = let nine : status ≡ 9 = h.0 in absurd (omega arith)
  program_unread (refusal.Trace at code) (inr (inr h)) = let seven = h.0 in absurd (omega arith)
  program_unread (refusal.Schedule at code earlier) (inl h) = let eight = h.0 in absurd (omega arith)
  program_unread (refusal.Schedule at code earlier) (inr (inl h)) = let five : status ≡ 5 = h.0 in absurd (omega arith)
  program_unread (refusal.Schedule at code earlier) (inr (inr h)) = let seven = h.0 in absurd (omega arith)
