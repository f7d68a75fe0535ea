-- What runs of a program keep, and what it means that no rule is broken.
use Rattle.mr_start.proofs.Common.{◌≡◌, ℕ, ◌+◌, refl, sym, ◌∙◌, arith, List, [], ◌∷◌, length, length-append, Some, None, Option, Program, Fault, Bare, Completed, IllFormedStep, Language, State, Stops, bare, Look, Own, thread_step, look_of, start_config, start_fault}
use Rattle.mr_sched.specs.declared.schedule.Entry.{Entry}
use Rattle.mr_sched.specs.declared.schedule.Schedule.{Schedule}
use Rattle.mr_frame.specs.PlanRuns.{AreLegal, Config, after, after_bare, feet, foot_from, foot_of_bare, machine_step, stepped_from}
use Rattle.mr_start.specs.Runs.{Legal, PlacedFault, at_line, entries_fault, program_fault, program_step, run_of, schedule_fault, steps_of}

-- ---- footprints

foot_bare : {L : Type 0} (step : Language L) (c : Config L) (b : Bare L) → (after_bare step c b).completed ≡ c.completed + length (foot_of_bare step b)
foot_bare step c (Completed n s) = refl
foot_bare step c (Stops v about) = omega arith
foot_bare step c IllFormedStep = omega arith

foot_step : {L : Type 0} (step : Language L) (c : Config L) (t : ℕ) (picks : List ℕ) (s : Option (State L))
    → (stepped_from step c t picks s).completed ≡ c.completed + length (foot_from step t picks s)
foot_step step c t picks None = omega arith
foot_step step c t picks (Some s) = foot_bare step c (bare step s t picks)

-- a run completes as many steps as it has footprints
feet_after : {L : Type 0} (step : Language L) (c : Config L) (es : List Entry) → (after step c es).completed ≡ c.completed + length (feet step c es)
unfolding machine_step
feet_after step c [] = omega arith
feet_after step c (e ∷ es) =
    let rest = feet step (machine_step step c e) es in
    let here = foot_from step e.thread e.picks c.state in
    let later = feet_after step (machine_step step c e) es in
    let now : (machine_step step c e).completed ≡ c.completed + length here = foot_step step c e.thread e.picks c.state in
    let all = length-append here rest in
    omega (arith, later, now, all)

pub feet_of_run : (p : Program) (w : Schedule) → length (steps_of p w) ≡ (run_of p w).completed
unfolding steps_of run_of start_config
feet_of_run p w =
    let e = feet_after (thread_step (look_of p w.start)) (start_config p w.start) w.entries in
    sym (e ∙ none)
  where
    none : 0 + length (feet (thread_step (look_of p w.start)) (start_config p w.start) w.entries) ≡ length (feet (thread_step (look_of p w.start)) (start_config p w.start) w.entries)
    none = omega arith

-- ---- legal entries

-- no fault stands on the line, and none behind it
neither : (line : ℕ) (f : Option Fault) (later : Option PlacedFault) → at_line line f later ≡ None → (f ≡ None) × (later ≡ None)
neither line None later h = (refl, h)
neither line (Some f) later h = absurd (cc)

pub legal_entries : (look : Look) (c : Config Own) (line : ℕ) (es : List Entry) → entries_fault look c line es ≡ None → AreLegal (thread_step look) c es
legal_entries look c line [] h = tt
legal_entries look c line (e ∷ es) h =
    let both = neither line (program_fault look c e) _ h in
    (both.0, legal_entries look (program_step look c e) (line + 1) es both.1)

pub no_fault : (look : Look) (c : Config Own) (line : ℕ) (es : List Entry) → AreLegal (thread_step look) c es → entries_fault look c line es ≡ None
no_fault look c line [] h = refl
no_fault look c line (e ∷ es) h = rw h.0 (no_fault look (program_step look c e) (line + 1) es h.1)

-- A schedule is legal exactly where no rule is the first that it breaks.
pub legal_schedule : (p : Program) (w : Schedule) → schedule_fault p w ≡ None → Legal p w
unfolding schedule_fault
legal_schedule p w h =
    let both = neither 2 (start_fault p w.start) _ h in
    record { start = both.0; entries = legal_entries (look_of p w.start) (start_config p w.start) 3 w.entries both.1 }

pub no_schedule_fault : (p : Program) (w : Schedule) → Legal p w → schedule_fault p w ≡ None
unfolding schedule_fault
no_schedule_fault p w h = rw h.start (no_fault (look_of p w.start) (start_config p w.start) 3 w.entries h.entries)
