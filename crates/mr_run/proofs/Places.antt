-- The first rule that a schedule breaks has a place of the schedule.
use Rattle.mr_run.proofs.Common.{◌≡◌, ℕ, suc, ◌+◌, ◌≤◌, ◌<◌, subst, arith, refl, List, [], ◌∷◌, length, Some, None, Option, Err, Program, Entry, Schedule, Config, Look, Own, PlacedFault, at_line, entries_fault, program_fault, program_step, schedule_fault, look_of, start_config, Standing, RunAnswer}
use Rattle.std.proofs.Common.{inl, inr}
use Rattle.mr_step.specs.PlanLegal.{Fault}
use Rattle.mr_step.specs.StartStart.{start_fault}
use Rattle.mr_step.specs.Answers.{fault_of}
use Rattle.mr_run.specs.declared.fault.RunFault.{RunFault}
use Rattle.mr_run.specs.declared.fault.RunFault.TheVariants.{Broken, Memory}
use Rattle.mr_run.specs.Runs.{HasPlace, IsPlace}

-- a fault stands at one of so many places
abbrev IsAmong : ℕ → ℕ → Option PlacedFault → Type 0
IsAmong from count None = Unit {0}
IsAmong from count (Some f) = (from ≤ f.line) × (f.line < from + count)

step_among : (from count : ℕ) (f : Option Fault) (later : Option PlacedFault) → IsAmong (from + 1) count later → IsAmong from (suc count) (at_line from f later)
step_among from count (Some f) later h = (omega arith, omega arith)
step_among from count None None h = tt
step_among from count None (Some g) h =
    let low = h.0 in
    let high = h.1 in
    (omega (arith, low), omega (arith, high))

entries_among : (look : Look) (c : Config Own) (from : ℕ) (es : List Entry) → IsAmong from (length es) (entries_fault look c from es)
entries_among look c from [] = tt
entries_among look c from (e ∷ es) =
    step_among from (length es) (program_fault look c e) (entries_fault look (program_step look c e) (from + 1) es) (entries_among look (program_step look c e) (from + 1) es)

-- a fault stands at a place of the schedule
abbrev IsPlacedFault : Schedule → Option PlacedFault → Type 0
IsPlacedFault w None = Unit {0}
IsPlacedFault w (Some f) = IsPlace w f.line

start_placed : (w : Schedule) (f : Option Fault) (later : Option PlacedFault) → IsAmong 3 (length w.entries) later → IsPlacedFault w (at_line 2 f later)
start_placed w (Some f) later h = inl refl
start_placed w None None h = tt
start_placed w None (Some g) h = inr h

fault_placed : (p : Program) (w : Schedule) → IsPlacedFault w (schedule_fault p w)
unfolding schedule_fault
fault_placed p w =
    let look = look_of p w.start in
    let c = start_config p w.start in
    start_placed w (start_fault p w.start) (entries_fault look c 3 w.entries) (entries_among look c 3 w.entries)

-- THE PLACE of the first broken rule
pub first_placed : (p : Program) (w : Schedule) (f : PlacedFault) → schedule_fault p w ≡ Some f → IsPlace w f.line
first_placed p w f h = subst (IsPlacedFault w) h (fault_placed p w)

-- what is told of a broken rule has such a place
pub has_place : (p : Program) (w : Schedule) (fault : RunFault) → RunAnswer p w (Err fault) → HasPlace {A = Standing} w (Err fault)
has_place p w (Broken place code earlier) h = first_placed p w (record { line = place; fault = fault_of code earlier }) h
has_place p w Memory h = tt
