-- Footprints that are handed out, and those that are not.
use Rattle.mr_step.proofs.Common.{◌≡◌, ◌<◌, ℕ, arith, refl, sym, ap, ap₂, ◌∙◌, subst, All, List, [], ◌∷◌, length, true, false, Some, None, Ok, take, Footprint, Entry, Config, foot_from, has_rule, Own, thread_step, GoAnswer, StepAnswer, Standing}
use Rattle.std.proofs.lemmas.List.Elements.{All-head}
use Rattle.mr_event.specs.FootOk.{IsFootOk}
use Rattle.mr_event.specs.Order.{no_step}
use Rattle.mr_exchange.specs.StartRuns.{program_fault, program_step}
use Rattle.mr_step.specs.declared.fault.Turn.{Turn}
use Rattle.mr_step.specs.Answers.{FailsToHand, Hands, RunsOut, Steps, completed, stopped, turn_of}
use Rattle.mr_step.proofs.EntryLaws.{Left, left_by, legal_runs, made, none, printed_behind}

module _ (e : Entry) (old new : Standing) (went : Turn) where
  abbrev feet : List Footprint
  feet = foot_from (thread_step old.look) e.thread e.picks old.config.state

  left : new ≡ record { look = old.look; failed = false; config = program_step old.look old.config e } → Left old.config feet new.config
  left after = subst (λ (s : Standing). Left old.config feet s.config) (sym after) (left_by old.look old.config e)

  -- a step that was made, of which no footprint is handed out
  pub gone_on : old.failed ≡ false → program_fault old.look old.config e ≡ None → has_rule (thread_step old.look) e.thread e.picks old.config.state ≡ true → All IsFootOk feet
      → new ≡ record { look = old.look; failed = false; config = program_step old.look old.config e } → went ≡ turn_of new.config.verdict → GoAnswer e old new (Ok went)
  gone_on working legal rule ok after turn = by (left after)
    where
      with_foot : (f f' : Footprint) → Hands feet old.config.completed new.config.completed f f' → GoAnswer e old new (Ok went)
      with_foot f f' foot = (f, f', record { working = working; legal = legal; has_rule = rule; after = after; foot = foot; ok = ok; turn = turn })

      by : Left old.config feet new.config → GoAnswer e old new (Ok went)
      by (made f told more last) = with_foot f f (completed told more)
      by (none told same) = with_foot no_step no_step (stopped told same refl)

  -- where a step completed, the footprint of the last completed step is its own
  pub handed : (f f' : Footprint) → GoAnswer e old new (Ok went) → (new.config.completed ≡ old.config.completed → ⊥) → ((last : Footprint) → new.config.last ≡ Some last → f' ≡ last)
      → StepAnswer e old new f f' (Ok went)
  handed f f' (g, g', h) more is = record { working = h.working; legal = h.legal; has_rule = h.has_rule; after = h.after; foot = by (left h.after); ok = h.ok; turn = h.turn }
    where
      by : Left old.config feet new.config → Hands feet old.config.completed new.config.completed f f'
      by (made l told one last) = completed (told ∙ ap (λ x. x ∷ []) (sym (is l last))) one
      by (none told same) = absurd (more same)

  -- a step that completed is one of those that did
  pub more_steps : GoAnswer e old new (Ok went) → (new.config.completed ≡ old.config.completed → ⊥) → 0 < new.config.completed
  more_steps (g, g', h) more = one h.foot
    where
      one : Hands feet old.config.completed new.config.completed g g' → 0 < new.config.completed
      one (completed told next) = omega arith
      one (stopped told same is) = absurd (more same)

  -- where its footprint can't be handed out, the machine tells what it told before
  pub unhanded : (prints : ℕ) → prints ≡ length old.config.output → GoAnswer e old new (Ok went) → (new.config.completed ≡ old.config.completed → ⊥) → (last : Standing) → FailsToHand prints new last → RunsOut old last
  unhanded prints many (g, g', h) more last fails =
      let after : new.config ≡ program_step old.look old.config e = ap (λ (s : Standing). s.config) h.after in
      record {
        working = h.working;
        failed = fails.failed;
        look = fails.look ∙ ap (λ (s : Standing). s.look) h.after;
        told = record {
          output =
              fails.back.output
              ∙ ap₂ (λ n (c : Config Own). take n c.output) many after
              ∙ printed_behind old.look old.config e (λ same. more (ap (λ (c : Config Own). c.completed) after ∙ same));
          completed = one h.foot;
          verdict = fails.back.verdict ∙ sym (legal_runs old.look old.config e h.legal);
        };
      }
    where
      one : Hands feet old.config.completed new.config.completed g g' → last.config.completed ≡ old.config.completed
      one (completed told next) = let back = fails.back.completed in omega arith
      one (stopped told same is) = absurd (more same)

-- THE FOOTPRINT THAT IS HANDED OUT keeps the machine's limits, and where no step completed it is the one that was there
pub handed_ok : (e : Entry) (old new : Standing) (f f' : Footprint) (went : Turn) → Steps e old new f f' went → IsFootOk f → IsFootOk f'
handed_ok e old new f f' _ h ok = by h.foot
  where
    by : Hands (foot_from (thread_step old.look) e.thread e.picks old.config.state) old.config.completed new.config.completed f f' → IsFootOk f'
    by (completed told more) = All-head IsFootOk f' [] (subst (All IsFootOk) told h.ok)
    by (stopped told same is) = subst IsFootOk (sym is) ok
