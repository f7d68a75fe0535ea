-- What the step of an entry comes to of which no footprint is handed out, and what stands behind it.
use Rattle.mr_run.proofs.Common.{◌≡◌, ◌≤◌, arith, sym, ap, ◌∙◌, subst, [], ◌∷◌, length, false, Some, None, Ok, Err, Footprint, Entry, program_step, Standing, EntryAnswer, IsMade, foot_by}
use Rattle.mr_step.specs.declared.fault.StepFault.{StepFault}
use Rattle.mr_step.specs.declared.fault.Turn.{Turn}
use Rattle.mr_step.specs.Answers.{GoAnswer, Hands, completed, stopped}
use Rattle.mr_step.proofs.EntryLaws.{Left, left_by, made, none}
use Rattle.mr_step.specs.declared.fault.StepFault.TheVariants as answer

-- what the step of an entry leaves of footprints
left_behind : (e : Entry) (old new : Standing) → new ≡ record { look = old.look; failed = false; config = program_step old.look old.config e } → Left old.config (foot_by e old) new.config
left_behind e old new after = subst (λ (s : Standing). Left old.config (foot_by e old) s.config) (sym after) (left_by old.look old.config e)

-- one at most
pub one_foot : (e : Entry) (old : Standing) → length (foot_by e old) ≤ 1
one_foot e old = by (left_by old.look old.config e)
  where
    by : Left old.config (foot_by e old) (program_step old.look old.config e) → length (foot_by e old) ≤ 1
    by (made f told more last) = omega (arith, ap length told)
    by (none told same) = omega (arith, ap length told)

-- an entry that is refused
pub refused_by : (e : Entry) (old new : Standing) (fault : StepFault) → old.failed ≡ false → GoAnswer e old new (Err fault) → EntryAnswer e old new (Err fault)
refused_by e old new (answer.BadEntry code earlier) working (f, f', h) = (h.broken, h.same)
refused_by e old new answer.Memory working (f, f', h) = tt
refused_by e old new answer.Failed working (f, f', h) = absurd (cc (sym working ∙ h.failed))

module _ (e : Entry) (old new : Standing) (went : Turn) where
  pub made_by : GoAnswer e old new (Ok went) → IsMade e old new
  made_by (f, f', h) = record { legal = h.legal; has_rule = h.has_rule; after = h.after }

  -- where no step completed there is no footprint
  pub none_left : GoAnswer e old new (Ok went) → new.config.completed ≡ old.config.completed → foot_by e old ≡ []
  none_left (f, f', h) same = by h.foot
    where
      by : Hands (foot_by e old) old.config.completed new.config.completed f f' → foot_by e old ≡ []
      by (completed told more) = absurd (omega (arith, same, more))
      by (stopped told still is) = told

  -- where one completed its footprint is the last one
  pub last_left : GoAnswer e old new (Ok went) → (new.config.completed ≡ old.config.completed → ⊥) → (last : Footprint) → new.config.last ≡ Some last → foot_by e old ≡ last ∷ []
  last_left (f, f', h) more last is = by (left_behind e old new h.after)
    where
      by : Left old.config (foot_by e old) new.config → foot_by e old ≡ last ∷ []
      by (made l told one there) = let same : l ≡ last = cc in told ∙ ap (λ x. x ∷ []) same
      by (none told still) = absurd (more still)

  -- and there is a last one
  pub last_there : GoAnswer e old new (Ok went) → (new.config.completed ≡ old.config.completed → ⊥) → new.config.last ≡ None → ⊥
  last_there (f, f', h) more is = by (left_behind e old new h.after)
    where
      by : Left old.config (foot_by e old) new.config → ⊥
      by (made l told one there) = cc
      by (none told still) = more still
