-- What is said of a run, from how its parts are answered.
use Rattle.mr_show.proofs.Common.{◌≡◌, ℕ, ◌<◌, ◌≤◌, ◌^◌, arith, ap, sym, ◌∙◌, subst, length, List, [], inl, inr, OnOk, Option, None, Some, Result, Ok, Err, Program, lexed, TextFault, parsed, FormFault, WellFormed, Footprint, Schedule, Version, PlacedFault, steps_of, Standing, RunFault, RunAnswer, Refusal, Written, Answer, Tells, TellsOrUnread, form_or, told, Gives, IsNoText, denoted, program_in, refused_over, same_refusal, Allocation, Stand, Part, Saying, spoken_of, answer_under, file_answer, part_answer, part_values, program_answer, rows_in, run_seen, stands_in, steps_in, told_values, gathered, IsOfFile, IsOfText, IsToldAs}
use Rattle.mr_lex.specs.Tokens.{Lexeme}
use Rattle.mr_places.specs.GrammarFaults.{OfTokens}
use Rattle.mr_places.proofs.GrammarParsingLaws.{fault_parsed}
use Rattle.mr_start.proofs.RunLaws.{no_schedule_fault}
use Rattle.mr_run.specs.declared.fault.RunFault.TheVariants.{Broken, Memory}
use Rattle.mr_run.specs.Runs.{IsFirstFault, IsRun}
use Rattle.mr_run.proofs.StepCount.{steps_within}
use Rattle.mr_answer.specs.Answers.{unless_broken}
use Rattle.mr_answer.specs.Running.{refusal_by}
use Rattle.mr_labels.specs.declared.step.ToldStep.{ToldStep}
use Rattle.mr_show.specs.Answer.{ran_answer, told_for}
use Rattle.mr_show.specs.Gathered.{lexemes_in}
use Rattle.mr_show.specs.Answering.{IsOfProgram, IsScheduleUnread}

-- ---- the run

module _ (part : Part) (text : List ℕ) (p : Program) (v : Version) (w : Schedule) where
  -- one that was taken to its end is told so
  pub told_run : (m : Standing) (a : Answer) (result : Result Written Refusal) → IsRun p w m
      → a ≡ part_answer part (spoken_of p w) (told_values part p w) (run_seen part text p w) → Tells a result
      → Tells (ran_answer part text p v w) result
  told_run m a result run is tells = subst (λ (b : Answer). Tells b result) (is ∙ sym legal) tells
    where
      legal : ran_answer part text p v w
          ≡ part_answer part (spoken_of p w) (told_values part p w) (run_seen part text p w)
      legal =
          ap (λ (f : Option PlacedFault).
          told (part_answer part (spoken_of p w) (told_values part p w))
          (unless_broken v w f (run_seen part text p w)))
          (no_schedule_fault p w run.legal)

  -- and the first rule that the schedule breaks, on its line
  pub told_broken : (f : RunFault) → IsFirstFault p w f → Tells (ran_answer part text p v w) (Err (refusal_by v w f))
  told_broken (Broken place code earlier) h =
      ap (λ (o : Option PlacedFault).
      told (part_answer part (spoken_of p w) (told_values part p w))
      (unless_broken v w o (run_seen part text p w))) h
  told_broken Memory h = tt

  -- by where its machine stands, the allocations and the steps that are told, where threads stood, and its footprints
  pub told_whole : (outcome : Result Standing RunFault) (rows : List Allocation) (steps : List ToldStep)
      (stands : List (Option Stand)) (feet : List Footprint) → RunAnswer p w outcome
      → OnOk outcome (rows ≡ rows_in (told_for part) p w) → OnOk outcome (steps ≡ steps_in (told_for part) p w)
      → OnOk outcome (stands ≡ stands_in (told_for part) p w) → OnOk outcome (feet ≡ steps_of p w)
      → IsToldAs part text p w rows steps stands feet outcome
  told_whole (Ok m) rows steps stands feet run made tell stood are =
      (λ i. part_answer part (spoken_of p w) (part_values part p w (made i) (are i))
      (gathered text p (run.config i) (length w.entries) (made i) (tell i) (stood i) (are i)))
  told_whole (Err f) rows steps stands feet run made tell stood are = tt

-- the footprints of a run are few
pub few_feet : (p : Program) (w : Schedule) (outcome : Result Standing RunFault) (feet : List Footprint)
    → length w.entries ≤ 2 ^ 22 → OnOk outcome (feet ≡ steps_of p w) → OnOk outcome (length feet < 2 ^ 32)
few_feet p w (Ok m) feet few are =
    let within = steps_within p w in
    subst (λ (fs : List Footprint). length fs < 2 ^ 32) (sym are) (omega (arith, within, few))
few_feet p w (Err f) feet few are = tt

-- what follows, where nothing failed
pub on_ok : {A E X Y : Type 0} (r : Result A E) → (X → Y) → OnOk r X → OnOk r Y
on_ok (Ok a) f x = f x
on_ok (Err e) f x = tt

-- ---- the text

-- one with a fault among its tokens denotes no program
pub no_program : (text : List ℕ) (f : TextFault) (p : Program) → lexed text ≡ Err f → parsed text ≡ Ok p → ⊥
no_program text f p e is = let bad = sym (fault_parsed text f (OfTokens e)) ∙ is in absurd (cc)

-- its tokens
pub its_lexemes : (text : List ℕ) (lexemes : List Lexeme) → lexed text ≡ Ok lexemes → lexemes ≡ lexemes_in (lexed text)
its_lexemes text lexemes e = sym (ap lexemes_in e)

module _ (saying : Saying) (file : Option (List ℕ)) (rose : Type 0) (result : Result Written Refusal) where
  -- a checked program is answered by its run
  pub of_checked : (text : List ℕ) (p q : Program) → (q ≡ p) × WellFormed p
      → TellsOrUnread rose (answer_under saying text file q) result → IsOfProgram rose saying text file p result
  of_checked text p q (same, well) (inl tells) =
      inl (subst (λ (a : Answer). Tells a result)
      (ap (answer_under saying text file) same
      ∙ sym (ap (λ (faults : List FormFault). form_or p faults (answer_under saying text file p)) well.unbroken)) tells)
  of_checked text p q (same, well) (inr (rises, is)) = inr (rises, well.unbroken, is)

  -- a text that was parsed is answered by its program
  pub of_text : (text : List ℕ) (p : Program) → parsed text ≡ Ok p → IsOfProgram rose saying text file p result
      → IsOfText rose saying file text result
  of_text text p e (inl tells) =
      inl (subst (λ (r : Result Program TextFault). Tells (told (program_answer saying text file) (denoted r)) result)
      (sym e) tells)
  of_text text p e (inr (rises, unbroken, is)) = inr (rises, (p, ap denoted e, unbroken, is))

  -- a file that was read is answered by its text
  pub of_file : (program : Option (List ℕ)) (text bytes : List ℕ) (later : Type 0) → (later → rose)
      → program ≡ Some bytes → text ≡ bytes → IsOfText later saying file text result
      → IsOfFile rose saying file program result
  of_file program text bytes later up there same (inl tells) =
      inl (subst (λ (f : Option (List ℕ)). Tells (file_answer saying file f) result) (ap Some same ∙ sym there) tells)
  of_file program text bytes later up there same (inr (rises, unread)) =
      inr (
        up rises,
        inr (subst (λ (f : Option (List ℕ)). IsScheduleUnread f result) (ap Some same ∙ sym there) unread),
      )

-- what refuses the text of a program is told
pub of_refused : (saying : Saying) (file : Option (List ℕ)) (rose : Type 0) (text : List ℕ) (r : Refusal)
    → Gives {A = Program} (Err r) (denoted (parsed text)) → IsOfText rose saying file text (Err r)
of_refused saying file rose text r h = inl (refused_over (program_answer saying text file) (denoted (parsed text)) r h)

-- what refuses the file of a program is told, or its read failed
module _ (saying : Saying) (file : Option (List ℕ)) (rose : Type 0) (r : Refusal) where
  told_file : (program : Option (List ℕ)) → Gives {A = Program} (Err r) (program_in program)
      → Tells (file_answer saying file program) (Err r)
  told_file None h = refused_over (program_answer saying [] file) (program_in None) r h
  told_file (Some text) h = refused_over (program_answer saying text file) (denoted (parsed text)) r h

  pub no_text : (program : Option (List ℕ)) → IsNoText rose program r → IsOfFile rose saying file program (Err r)
  no_text program (inl h) = inl (told_file program h)
  no_text program (inr (rises, e)) = inr (rises, inl (ap Err (same_refusal e)))

-- a program that a text is read as is the one that it denotes
pub was_parsed : (read : Result Program TextFault) (p : Program) → denoted read ≡ Ok p → read ≡ Ok p
was_parsed (Ok q) p e = cc
was_parsed (Err f) p e = absurd (cc)
