-- The entry of a turn, from what the code finds.
use Rattle.mr_fill.proofs.Common.{◌≡◌, ℕ, refl, sym, ap, ap₂, ◌∙◌, List, Bool, true, false, Option, Some, None, Result, Ok, Err, slice_get, if◌then◌else◌, Status, Chooser, Ask, State, needs, Config, is_running, Look, Own, thread_step, Next, asked_entry, enabled_entry, entry_at, entry_from, entry_in, entry_with, given, is_surplus, missing_code, within_limits, Turn}
use Rattle.std.specs.Option.{option_map}
use Rattle.mr_sched.specs.Rules.{code_of}
use Rattle.mr_start.specs.SyncTables.{is_enabled}
use Rattle.mr_step.specs.PlanLegal.{Fault, creation_fault}
use Rattle.mr_sched.specs.declared.rule.ScheduleRule.TheVariants as rule

-- a limit is reached
pub limit_broken : (o : Option Fault) (next : Result Next ℕ) (code : ℕ) → Some code ≡ option_map (λ (f : Fault). f.code) o → within_limits o next ≡ Err code
limit_broken None next code h = absurd (cc)
limit_broken (Some f) next code h = let same : code ≡ f.code = cc in ap (λ n. Err n) (sym same)

-- none is
within_all : (o : Option Fault) (next : Result Next ℕ) → None ≡ option_map (λ (f : Fault). f.code) o → next ≡ within_limits o next
within_all None next h = refl
within_all (Some f) next h = absurd (cc)

module _ (statuses : List Status) (c : Chooser) (turn : Turn) (asks : List Ask) (used : is_surplus turn.receiver asks ≡ false) where
  asked_as : asked_entry statuses c turn asks ≡ entry_with turn.thread asks (given statuses turn.receiver c asks)
  asked_as = ap (λ (b : Bool). if b then Err (code_of rule.ExtraPick) else entry_with turn.thread asks (given statuses turn.receiver c asks)) used

  -- there are picks
  pub asked_told : (picks : List ℕ) (c' : Chooser) → given statuses turn.receiver c asks ≡ Some (record { picks = picks; chooser = c' })
      → asked_entry statuses c turn asks ≡ Ok (record { entry = record { thread = turn.thread; picks = picks }; chooser = c' })
  asked_told picks c' e = asked_as ∙ ap (entry_with turn.thread asks) e

  -- there is none for some ask
  pub missing_told : given statuses turn.receiver c asks ≡ None → asked_entry statuses c turn asks ≡ Err (missing_code asks)
  missing_told e = asked_as ∙ ap (entry_with turn.thread asks) e

module _ (look : Look) (s : State Own) (c : Chooser) (turn : Turn) where
  pub enabled_told : (asks : List Ask) → None ≡ option_map (λ (f : Fault). f.code) (creation_fault s.shared (needs (thread_step look) s turn.thread).creates) → asks ≡ (needs (thread_step look) s turn.thread).asks
      → asked_entry s.shared.statuses c turn asks ≡ enabled_entry look s c turn
  enabled_told asks free are =
      ap (asked_entry s.shared.statuses c turn) are
      ∙ within_all (creation_fault s.shared (needs (thread_step look) s turn.thread).creates) (asked_entry s.shared.statuses c turn (needs (thread_step look) s turn.thread).asks) free

  -- the thread can go on
  pub on_told : is_enabled (slice_get s.shared.statuses turn.thread) ≡ true → enabled_entry look s c turn ≡ entry_in look s c turn
  on_told on = sym (ap (λ (b : Bool). if b then enabled_entry look s c turn else Err (code_of rule.NotEnabled)) on)

  -- it can't
  pub off_told : is_enabled (slice_get s.shared.statuses turn.thread) ≡ false → entry_in look s c turn ≡ Err (code_of rule.NotEnabled)
  off_told off = ap (λ (b : Bool). if b then enabled_entry look s c turn else Err (code_of rule.NotEnabled)) off

module _ (look : Look) (c : Config Own) (chooser : Chooser) (turn : Turn) where
  -- the machine runs
  pub running_told : (s : State Own) → is_running c.verdict ≡ true → c.state ≡ Some s → entry_in look s chooser turn ≡ entry_at look c chooser turn
  running_told s running here =
      sym
      (ap (λ (b : Bool). if b then entry_from look chooser turn c.state else Err (code_of rule.AfterStop)) running
      ∙ ap (entry_from look chooser turn) here)

  -- it doesn't
  pub stopped_told : is_running c.verdict ≡ false → entry_at look c chooser turn ≡ Err (code_of rule.AfterStop)
  stopped_told stopped = ap (λ (b : Bool). if b then entry_from look chooser turn c.state else Err (code_of rule.AfterStop)) stopped
