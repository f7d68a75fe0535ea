-- What a run shows: its verdict, and the places of its races.
use Rattle.std.specs.Prelude.{ℕ, ◌==◌, ◌&&◌, Bool, false, List, ◌∷◌, map, Option, slice_get}
use Rattle.mr_ast.specs.declared.program.Program.{Program}
use Rattle.mr_base.specs.Reasons.{code_of}
use Rattle.mr_base.specs.declared.reason.Verdict.{Verdict}
use Rattle.mr_base.specs.declared.reason.Verdict.TheVariants as verdict
use Rattle.mr_event.specs.Predicted.{predicted}
use Rattle.mr_event.specs.declared.footprint.Pair.{Pair}
use Rattle.mr_sched.specs.declared.schedule.Schedule.{Schedule}
use Rattle.mr_auto.specs.StartRuns.{run_of, steps_of}
use Rattle.mr_auto.specs.Drawing.{drawn_schedule}
use Rattle.mr_labels.specs.declared.step.Stand.{Stand}
use Rattle.mr_replay.specs.Stands.{stands_of}
use Rattle.mr_listing.specs.Races.{before_of, same_stand}
use Rattle.mr_hunt.specs.declared.ends.End.{End}
use Rattle.mr_hunt.specs.declared.ends.End.TheVariants as shown

-- ---- kinds

-- a number for each verdict
abbrev pub verdict_number : Verdict → ℕ
verdict_number verdict.Running = 0
verdict_number verdict.Exit = 1
verdict_number verdict.Leak = 2
verdict_number verdict.Abort = 3
verdict_number verdict.Deadlock = 4
verdict_number (verdict.Undefined reason) = code_of reason

-- WHETHER TWO ENDS ARE OF ONE KIND: the same verdict, or races at the same two places
abbrev pub same_end : End → End → Bool
same_end (shown.Verdict v) (shown.Verdict w) = verdict_number v == verdict_number w
same_end (shown.Verdict v) (shown.Race c d) = false
same_end (shown.Race a b) (shown.Verdict w) = false
same_end (shown.Race a b) (shown.Race c d) = same_stand a c && same_stand b d

-- ---- what a run shows

-- a race, by where the threads of its two steps stood
abbrev pub race_at : List (Option Stand) → Pair → End
race_at stands pair = shown.Race (before_of (slice_get stands pair.first)) (before_of (slice_get stands pair.second))

-- WHAT A RUN SHOWS: its verdict, and each of its races by its places
abbrev pub run_ends : Program → Schedule → List End
run_ends p w = shown.Verdict (run_of p w).verdict ∷ map (race_at (stands_of p w)) (predicted (steps_of p w))

-- what the run of a number shows, whose schedule is drawn with at most so many entries
abbrev pub ends_of : Program → ℕ → ℕ → List End
ends_of p most number = run_ends p (drawn_schedule p number most)
