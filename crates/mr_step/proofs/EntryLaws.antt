-- What an entry comes to, by the state in which it finds the machine.
use Rattle.mr_step.proofs.Common.{◌≡◌, ◌+◌, ap, ◌∙◌, sym, refl, List, [], ◌∷◌, length, Bool, true, false, Option, Some, None, map, slice_get, take, Footprint, Entry, Fault, fault, Completed, State, Thread, needed, needs, Notes, start_notes, Config, after_bare, entry_fault, foot_from, foot_in, machine_step, printed_by, Look, Own, thread_step, picks_break, planned, turned}
use Rattle.std.proofs.Math.Seq.{take-append_seam}
use Rattle.std.specs.Prelude.{if◌then◌else◌}
use Rattle.mr_base.specs.declared.reason.Verdict.{Verdict}
use Rattle.mr_base.specs.declared.thread.Status.{Status}
use Rattle.mr_base.specs.declared.thread.Status.TheVariants.{Enabled, Ended, OnJoin, OnLock}
use Rattle.mr_sync.specs.Tables.{is_enabled}
use Rattle.mr_plan.specs.Legal.{count_of, else_fault, needs_fault, status_fault}
use Rattle.mr_plan.specs.Machine.{Bare, IllFormedStep, Stops, acted, bare, settled}
use Rattle.mr_plan.specs.Queries.{Shared}
use Rattle.mr_plan.specs.Runs.{fault_in, foot_of_bare, is_running, stepped_from}
use Rattle.mr_base.specs.declared.reason.Verdict.TheVariants as verdict
use Rattle.mr_sched.specs.declared.rule.ScheduleRule.TheVariants as rule

-- a verdict with which the machine runs
pub running_is : (v : Verdict) → is_running v ≡ true → v ≡ verdict.Running
running_is verdict.Running h = refl
running_is verdict.Exit h = absurd (cc)
running_is verdict.Leak h = absurd (cc)
running_is verdict.Abort h = absurd (cc)
running_is verdict.Deadlock h = absurd (cc)
running_is (verdict.Undefined r) h = absurd (cc)

-- a status of a thread that can go on
pub enabled_is : (o : Option Status) → is_enabled o ≡ true → o ≡ Some Enabled
enabled_is None h = absurd (cc)
enabled_is (Some Enabled) h = refl
enabled_is (Some (OnJoin u)) h = absurd (cc)
enabled_is (Some (OnLock l)) h = absurd (cc)
enabled_is (Some Ended) h = absurd (cc)

-- another status, or none
status_breaks : (o : Option Status) → is_enabled o ≡ false → status_fault o ≡ fault rule.NotEnabled
status_breaks None h = refl
status_breaks (Some Enabled) h = absurd (cc)
status_breaks (Some (OnJoin u)) h = refl
status_breaks (Some (OnLock l)) h = refl
status_breaks (Some Ended) h = refl

module _ (look : Look) (c : Config Own) (e : Entry) where
  -- an entry behind a stop
  pub stopped_breaks : is_running c.verdict ≡ false → entry_fault (thread_step look) c e ≡ fault rule.AfterStop
  unfolding entry_fault
  stopped_breaks h = ap (λ (b : Bool). if b then fault_in (thread_step look) e.thread e.picks c.state else fault rule.AfterStop) h

  -- an entry where there is no state
  pub gone_breaks : c.state ≡ None → entry_fault (thread_step look) c e ≡ fault rule.AfterStop
  unfolding entry_fault
  gone_breaks h = ap (λ (o : Option (State Own)). if is_running c.verdict then fault_in (thread_step look) e.thread e.picks o else fault rule.AfterStop) h ∙ both (is_running c.verdict)
    where
      both : (b : Bool) → (if b then fault rule.AfterStop else fault rule.AfterStop) ≡ fault rule.AfterStop
      both true = refl
      both false = refl

  module _ (s : State Own) (state : c.state ≡ Some s) where
    by_state : c.verdict ≡ verdict.Running
        → entry_fault (thread_step look) c e
        ≡ else_fault (status_fault (slice_get s.shared.statuses e.thread)) (needs_fault s.shared e.thread (count_of (slice_get s.threads e.thread)) (needs (thread_step look) s e.thread) e.picks)
    unfolding entry_fault
    by_state running =
        ap (λ (v : Verdict). if is_running v then fault_in (thread_step look) e.thread e.picks c.state else fault rule.AfterStop) running
        ∙ ap (fault_in (thread_step look) e.thread e.picks) state

    -- an entry of a thread that can't go on, or isn't there
    pub disabled_breaks : c.verdict ≡ verdict.Running → is_enabled (slice_get s.shared.statuses e.thread) ≡ false → entry_fault (thread_step look) c e ≡ fault rule.NotEnabled
    disabled_breaks running h =
        by_state running
        ∙ ap (λ (f : Option Fault). else_fault f (needs_fault s.shared e.thread (count_of (slice_get s.threads e.thread)) (needs (thread_step look) s e.thread) e.picks)) (status_breaks (slice_get s.shared.statuses e.thread) h)

    module _ (th : Thread Own) (here : slice_get s.threads e.thread ≡ Some th) where
      abbrev w : Shared × Notes
      w = (s.shared, start_notes e.thread th.count)

      -- an entry of a thread that can go on breaks the rule that its picks break
      pub fault_is : c.verdict ≡ verdict.Running → slice_get s.shared.statuses e.thread ≡ Some Enabled → entry_fault (thread_step look) c e ≡ picks_break w (planned look th.own w) e.picks
      unfolding planned
      fault_is running enabled =
          by_state running
          ∙ ap (λ (o : Option Status). else_fault (status_fault o) (needs_fault s.shared e.thread (count_of (slice_get s.threads e.thread)) (needs (thread_step look) s e.thread) e.picks)) enabled
          ∙ ap (λ (o : Option (Thread Own)). needs_fault s.shared e.thread (count_of o) (needed (thread_step look) s e.thread o) e.picks) here

      bare_is : bare (thread_step look) s e.thread e.picks ≡ settled s e.thread (turned look th.own e.picks w)
      unfolding turned
      bare_is = ap (acted (thread_step look) s e.thread e.picks) here

      -- where the entry leads
      pub step_is : machine_step (thread_step look) c e ≡ after_bare (thread_step look) c (settled s e.thread (turned look th.own e.picks w))
      unfolding machine_step
      step_is = ap (stepped_from (thread_step look) c e.thread e.picks) state ∙ ap (after_bare (thread_step look) c) bare_is

-- a legal entry finds the machine running
pub legal_runs : (look : Look) (c : Config Own) (e : Entry) → entry_fault (thread_step look) c e ≡ None → c.verdict ≡ verdict.Running
legal_runs look c e legal = by (is_running c.verdict) refl
  where
    by : (b : Bool) → is_running c.verdict ≡ b → c.verdict ≡ verdict.Running
    by true is = running_is c.verdict is
    by false is = absurd (none_some (sym legal ∙ stopped_breaks look c e is))
      where
        none_some : None ≡ fault rule.AfterStop → ⊥
        none_some h = cc

-- what a step that completed printed stands behind what was printed before
pub printed_behind : (look : Look) (c : Config Own) (e : Entry) → ((machine_step (thread_step look) c e).completed ≡ c.completed → ⊥) → take (length c.output) (machine_step (thread_step look) c e).output ≡ c.output
unfolding machine_step
printed_behind look c e = in_state c.state
  where
    behind_bare : (b : Bare Own) → ((after_bare (thread_step look) c b).completed ≡ c.completed → ⊥) → take (length c.output) (after_bare (thread_step look) c b).output ≡ c.output
    behind_bare (Completed n s) more = take-append_seam c.output (map (printed_by n.tally.thread) n.printed)
    behind_bare (Stops v about) more = absurd (more refl)
    behind_bare IllFormedStep more = absurd (more refl)

    in_state : (o : Option (State Own)) → ((stepped_from (thread_step look) c e.thread e.picks o).completed ≡ c.completed → ⊥) → take (length c.output) (stepped_from (thread_step look) c e.thread e.picks o).output ≡ c.output
    in_state None more = absurd (more refl)
    in_state (Some s) more = behind_bare (bare (thread_step look) s e.thread e.picks) more

-- What the step of an entry leaves of footprints: that of a step that completed is the last one behind it.
pub data Left (c : Config Own) (feet : List Footprint) (c' : Config Own) : Type 0 where
  made : (f : Footprint) → feet ≡ f ∷ [] → c'.completed ≡ c.completed + 1 → c'.last ≡ Some f → Left c feet c'
  none : feet ≡ [] → c'.completed ≡ c.completed → Left c feet c'

left_bare : (look : Look) (c : Config Own) (b : Bare Own) → Left c (foot_of_bare (thread_step look) b) (after_bare (thread_step look) c b)
left_bare look c (Completed n s) = made (foot_in (thread_step look) n s) refl refl refl
left_bare look c (Stops v about) = none refl refl
left_bare look c IllFormedStep = none refl refl

pub left_by : (look : Look) (c : Config Own) (e : Entry) → Left c (foot_from (thread_step look) e.thread e.picks c.state) (machine_step (thread_step look) c e)
unfolding machine_step
left_by look c e = in_state c.state
  where
    in_state : (o : Option (State Own)) → Left c (foot_from (thread_step look) e.thread e.picks o) (stepped_from (thread_step look) c e.thread e.picks o)
    in_state None = none refl refl
    in_state (Some s) = left_bare look c (bare (thread_step look) s e.thread e.picks)
