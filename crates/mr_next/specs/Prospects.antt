-- What each thread would do next: what its step asks for, and what it waits for.
use Rattle.std.specs.Prelude.{ℕ, if◌then◌else◌, List, [], length, map, Option, None, Some, slice_get}
use Rattle.std.specs.List.{range_with_len}
use Rattle.std.specs.Option.{option_map}
use Rattle.mr_base.specs.declared.thread.Status.{Status}
use Rattle.mr_base.specs.declared.thread.Status.TheVariants.{OnLock}
use Rattle.mr_sched.specs.declared.schedule.Ask.{Ask}
use Rattle.mr_sched.specs.declared.schedule.Ask.TheVariants as ask
use Rattle.mr_step.specs.SyncTables.{holder_of, is_enabled}
use Rattle.mr_step.specs.PlanLegal.{creation_fault}
use Rattle.mr_step.specs.PlanMachine.{State, needs}
use Rattle.mr_step.specs.PlanQueries.{tables_of}
use Rattle.mr_step.specs.FrameFrames.{Look}
use Rattle.mr_step.specs.ThreadSteps.{Own, thread_step}
use Rattle.mr_auto.specs.Drawing.{waiting_in}
use Rattle.mr_next.specs.declared.prospect.Prospect.{Prospect}
use Rattle.mr_next.specs.declared.prospect.Want.{Want}
use Rattle.mr_next.specs.declared.prospect.Want.TheVariants as want

-- what a step asks for: an address, or one of the threads that wait for a lock
abbrev pub want_of : List Status → Ask → Want
want_of statuses (ask.Address size align) = want.Address size align
want_of statuses (ask.Waiter lock) = want.Waiter lock (waiting_in lock statuses)

-- the thread that holds the lock that is waited for
abbrev pub holder_for : State Own → Option Status → Option ℕ
holder_for s (Some (OnLock lock)) = holder_of lock (tables_of s.shared)
holder_for s _ = None

-- all that the next step of a thread asks for, where the thread can go on
abbrev pub wants_in : Look → State Own → ℕ → List Want
wants_in look s t =
    if is_enabled (slice_get s.shared.statuses t)
    then map (want_of s.shared.statuses) (needs (thread_step look) s t).asks else []

-- the rule that its next step would break whatever is picked: one thread or one lock too many
abbrev pub limit_in : Look → State Own → ℕ → Option ℕ
limit_in look s t =
    if is_enabled (slice_get s.shared.statuses t)
    then option_map (λ f. f.code) (creation_fault s.shared (needs (thread_step look) s t).creates) else None

-- WHAT A THREAD WOULD DO NEXT
abbrev pub prospect_in : Look → State Own → ℕ → Prospect
prospect_in look s t = record {
  status = slice_get s.shared.statuses t;
  holder = holder_for s (slice_get s.shared.statuses t);
  wants = wants_in look s t;
  limit = limit_in look s t;
}

-- what each thread would, in order; none behind a step that itself stopped
abbrev pub prospects_in : Look → Option (State Own) → List Prospect
prospects_in look None = []
prospects_in look (Some s) = map (prospect_in look s) (range_with_len 0 (length s.shared.statuses))
