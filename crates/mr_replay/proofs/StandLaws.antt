-- What a machine answers of its threads, by the state in which it stands.
use Rattle.mr_replay.proofs.Common.{◌≡◌, ℕ, ◌∙◌, ap, refl, sym, Bool, false, if◌then◌else◌, List, [], Option, Some, None, slice_get, length, IfOk, Result, Ok, Err, State, needs, Own, thread_step, asks_at, stand_of}
use Rattle.std.proofs.Common.{true}
use Rattle.std.specs.Option.{option_map}
use Rattle.mr_base.specs.declared.thread.Status.{Status}
use Rattle.mr_frame.specs.Frames.{Look}
use Rattle.mr_frame.specs.declared.stack.At.{At}
use Rattle.mr_frame.specs.PlanQueries.{tables_of}
use Rattle.mr_frame.specs.PlanRuns.{Config}
use Rattle.mr_sched.specs.declared.schedule.Ask.{Ask}
use Rattle.mr_step.specs.Standing.{place_in}
use Rattle.mr_step.proofs.EntryLaws.{enabled_is}
use Rattle.mr_step.specs.SyncTables.{IsEnabled, is_enabled}
use Rattle.mr_replay.specs.Told.{asks_from, stand_from, stand_with, status_from, status_of, threads_from}

module _ (c : Config Own) (t : ℕ) where
  -- where it stands
  pub stand_is : (place : Option At) → ((s : State Own) → c.state ≡ Some s → place ≡ place_in (slice_get s.threads t))
      → (c.state ≡ None → place ≡ None) → option_map (stand_with t) place ≡ stand_of c t
  stand_is place there gone = by c.state refl
    where
      by : (o : Option (State Own)) → c.state ≡ o → option_map (stand_with t) place ≡ stand_from t o
      by None is = ap (λ p. option_map (stand_with t) p) (gone is)
      by (Some s) is = ap (λ p. option_map (stand_with t) p) (there s is)

  -- whether it can go on
  pub status_is : (status : Option Status) → ((s : State Own) → c.state ≡ Some s → status ≡ slice_get s.shared.statuses t)
      → (c.state ≡ None → status ≡ None) → status ≡ status_of c t
  status_is status there gone = by c.state refl
    where
      by : (o : Option (State Own)) → c.state ≡ o → status ≡ status_from t o
      by None is = gone is
      by (Some s) is = there s is

  module _ (can : Bool) (there : (s : State Own) → c.state ≡ Some s → can ≡ is_enabled (slice_get s.shared.statuses t))
      (gone : c.state ≡ None → can ≡ false) where
    -- a thread that can go on does so in a state
    pub has_state : can ≡ true → (s : State Own) × (c.state ≡ Some s) × IsEnabled t (tables_of s.shared)
    has_state holds = by c.state refl
      where
        by : (o : Option (State Own)) → c.state ≡ o → (s : State Own) × (c.state ≡ Some s) × IsEnabled t (tables_of s.shared)
        by None is = let fails = gone is in absurd (cc)
        by (Some s) is = (s, is, enabled_is (slice_get s.shared.statuses t) (sym (there s is) ∙ holds))

    -- one that can't asks for nothing
    pub asks_none : (look : Look) → can ≡ false → [] ≡ asks_at look c t
    asks_none look fails = by c.state refl
      where
        by : (o : Option (State Own)) → c.state ≡ o → [] ≡ asks_from look t o
        by None is = refl
        by (Some s) is =
            sym (ap (λ b. if b then (needs (thread_step look) s t).asks else []) (sym (there s is) ∙ fails))

    -- what one asks for that can
    pub asks_are : (look : Look) (asks : List Ask) → can ≡ true
        → ((s : State Own) → c.state ≡ Some s → asks ≡ (needs (thread_step look) s t).asks) → asks ≡ asks_at look c t
    asks_are look asks holds found = by c.state refl
      where
        by : (o : Option (State Own)) → c.state ≡ o → asks ≡ asks_from look t o
        by None is = let fails = gone is in absurd (cc)
        by (Some s) is =
            found s is
            ∙ sym (ap (λ b. if b then (needs (thread_step look) s t).asks else []) (sym (there s is) ∙ holds))

-- how many threads there are
pub threads_are : (c : Config Own) (count : ℕ)
    → ((s : State Own) → c.state ≡ Some s → count ≡ length s.shared.statuses) → (c.state ≡ None → count ≡ 0)
    → count ≡ threads_from c.state
threads_are c count there gone = by c.state refl
  where
    by : (o : Option (State Own)) → c.state ≡ o → count ≡ threads_from o
    by None is = gone is
    by (Some s) is = there s is

-- what is asked for follows from what is asked for in a state
pub weaker : {A E : Type 0} (r : Result A E) (P Q : A → Type 0) → IfOk r P → ((a : A) → P a → Q a) → IfOk r Q
weaker (Ok a) P Q h f = f a h
weaker (Err e) P Q h f = h
