-- Bare steps over any language of steps: plans, states, and what one step of a thread comes to. (MiniRust, lang: the
-- machine.)
use Rattle.std.specs.Prelude.{ℕ, List, [], ◌∷◌, ◌++◌, slice_set, Option, None, Some, slice_get, if◌then◌else◌}
use Rattle.mr_base.specs.declared.reason.Verdict.{Verdict}
use Rattle.mr_base.specs.declared.reason.Verdict.TheVariants as verdict
use Rattle.mr_base.specs.declared.reached.Reached.{Reached}
use Rattle.mr_mem.specs.Memory.{leaks}
use Rattle.mr_sched.specs.declared.schedule.Ask.{Ask}
use Rattle.mr_base.specs.Script.{◌>>=◌, Outcome, Went, Refused, Broken, run}
use Rattle.mr_plan.specs.Notes.{Notes, start_notes}
use Rattle.mr_plan.specs.Queries.{Shared, StepScript, answer}

-- how a step ends: with the thread's own state, and that of a thread that it starts; or it stops the machine
pub data Flow (L : Type 0) : Type 0 where
  Goes : (own : L) (started : Option L) → Flow L
  Exits : Flow L
  Aborts : Flow L

-- what a step would create, of which there may be only so many
pub data Creation : Type 0 where
  CreatesNothing : Creation
  CreatesThread : Creation
  CreatesLock : Creation

-- What a step finds out before it needs a pick: what it creates, which picks it asks for, and what it does with them.
pub record Plan (A : Type 0) : Type 0 where
  pub creates : Creation
  pub asks : List Ask
  pub go : List ℕ → A

-- A LANGUAGE OF STEPS: a thread's next step, as a script that makes a plan and one that carries it out; its edition
pub record Language (L : Type 0) : Type 0 where
  pub next : L → StepScript (Plan (StepScript (Flow L)))
  pub edition : ℕ

-- a thread: its own state, and how many allocations it has made
pub record Thread (L : Type 0) : Type 0 where
  pub own : L
  pub count : ℕ

-- what the threads share, and each thread
pub record State (L : Type 0) : Type 0 where
  pub shared : Shared
  pub threads : List (Thread L)

-- what a bare step comes to: notes and a state; or it stops with a verdict, and may speak of bytes; or it has no rule
pub data Bare (L : Type 0) : Type 0 where
  Completed : Notes → State L → Bare L
  Stops : Verdict → Option Reached → Bare L
  IllFormedStep : Bare L

-- a thread with its own state that made so many allocations
abbrev pub thread_of : {L : Type 0} → L → ℕ → Thread L
thread_of own count = record { own = own; count = count }

-- the thread that a step started, which made no allocation yet
abbrev pub started_threads : {L : Type 0} → Option L → List (Thread L)
started_threads None = []
started_threads (Some new) = thread_of new 0 ∷ []

-- the state behind a step that went on, and the verdict behind one that ended the run
abbrev pub settle : {L : Type 0} → State L → ℕ → Flow L → Shared × Notes → Bare L
settle s t (Goes own new) w =
    Completed w.1
    (record { shared = w.0; threads = slice_set s.threads t (thread_of own w.1.tally.count) ++ started_threads new })
settle s t Exits w = Stops (if leaks w.0.memory then verdict.Leak else verdict.Exit) None
settle s t Aborts w = Stops verdict.Abort None

-- the same of an outcome, which may be that the program is undefined or that there is no rule
abbrev pub settled : {L : Type 0} → State L → ℕ → Outcome (Flow L) (Shared × Notes) → Bare L
settled s t (Went f w) = settle s t f w
settled s t (Refused stop) = Stops (verdict.Undefined stop.reason) stop.about
settled s t Broken = IllFormedStep

-- the step of a thread with these picks
abbrev pub acted : {L : Type 0} → Language L → State L → ℕ → List ℕ → Option (Thread L) → Bare L
acted step s t picks None = IllFormedStep
acted step s t picks (Some th) =
    settled s t (run answer (step.next th.own >>= λ plan. plan.go picks) (s.shared, start_notes t th.count))

-- ONE BARE STEP of thread t with these picks, in a language whose steps are these scripts
abbrev pub bare : {L : Type 0} → Language L → State L → ℕ → List ℕ → Bare L
bare step s t picks = acted step s t picks (slice_get s.threads t)

-- ---- what the next step of a thread asks for

-- what a step needs: nothing where it stops before its plan is made
pub record Needs : Type 0 where
  pub creates : Creation
  pub asks : List Ask

-- a step that makes no thread and no lock and asks for nothing
abbrev pub no_needs : Needs
no_needs = record { creates = CreatesNothing; asks = [] }

-- what a plan needs; what has no plan needs nothing
abbrev pub needs_of : {A : Type 0} → Outcome (Plan A) (Shared × Notes) → Needs
needs_of (Went plan w) = record { creates = plan.creates; asks = plan.asks }
needs_of _ = no_needs

-- what the next step of a thread needs
abbrev pub needed : {L : Type 0} → Language L → State L → ℕ → Option (Thread L) → Needs
needed step s t None = no_needs
needed step s t (Some th) = needs_of (run answer (step.next th.own) (s.shared, start_notes t th.count))

-- what the next step of thread t needs, which no pick can change
abbrev pub needs : {L : Type 0} → Language L → State L → ℕ → Needs
needs step s t = needed step s t (slice_get s.threads t)
