-- A legal schedule breaks no rule; and a drawn one is not long.
use Rattle.mr_hunt.proofs.Common.{◌≡◌, ℕ, zero, suc, ◌≤◌, ◌^◌, Bool, true, false, arith, length, sym, ◌∙◌, List, [], Option, None, Some, Schedule, Config, drawn_schedule}
use Rattle.mr_ast.specs.declared.program.Program.{Program}
use Rattle.mr_sched.specs.declared.chooser.Chooser.{Chooser}
use Rattle.mr_sched.specs.declared.schedule.Entry.{Entry}
use Rattle.mr_auto.specs.StartFrameFrames.{Look}
use Rattle.mr_auto.specs.StartSteps.{Own}
use Rattle.mr_auto.specs.StartRuns.{Legal, PlacedFault, program_step, schedule_fault}
use Rattle.mr_auto.specs.StartStart.{look_of, start_config}
use Rattle.mr_auto.proofs.StartRunLaws.{no_schedule_fault}
use Rattle.mr_auto.specs.Drawing.{Next, Picked, drawn_entries, led, next_at, schedule_from, start_picked}

none_some : {A : Type 0} {x : A} → ◌≡◌ {A = Option A} None (Some x) → ⊥
none_some e = cc

pub never_broken : (p : Program) (w : Schedule) (f : PlacedFault) → Legal p w → schedule_fault p w ≡ Some f → ⊥
never_broken p w f legal broken = none_some (sym (no_schedule_fault p w legal) ∙ broken)

entries_few : (look : Look) (most : ℕ) (c : Config Own) (chooser : Chooser)
    → length (drawn_entries look most c chooser) ≤ most
entries_few look zero c chooser = omega arith
entries_few look (suc most) c chooser =
    go (next_at look c chooser)
    (λ next. entries_few look most (program_step look c next.entry) next.chooser)
  where
    go : (o : Option Next)
        → ((next : Next) → length (drawn_entries look most (program_step look c next.entry) next.chooser) ≤ most)
        → length (led o (λ next. drawn_entries look most (program_step look c next.entry) next.chooser)) ≤ suc most
    go None later = omega arith
    go (Some next) later = let few = later next in omega (arith, few)

schedule_few : (p : Program) (most : ℕ) (o : Option Picked) → length (schedule_from p most o).entries ≤ most
schedule_few p most None = omega arith
schedule_few p most (Some r) = entries_few (look_of p r.picks) most (start_config p r.picks) r.chooser

pub drawn_few : (p : Program) (number most : ℕ) → length (drawn_schedule p number most).entries ≤ most
unfolding drawn_schedule
drawn_few p number most = schedule_few p most (start_picked p number)
