-- The names that most proofs of this crate cite, passed on from one place. Declares nothing.
pub use Rattle.std.proofs.Common.{◌+◌, ◌++◌, ◌<◌, [], ap, append-nil, arith, Err, false, length, length-append, List, None, Ok, OnErr, OnOk, Option, refl, Some, subst, suc, sym, zero, ℕ, ◌∙◌, ◌∷◌, ◌≡◌, ◌≤◌}
pub use Rattle.mr_ast.specs.declared.program.Program.{Program}
pub use Rattle.mr_clocks.specs.Tracked.{Tracks}
pub use Rattle.mr_event.specs.Footprint.{Footprint}
pub use Rattle.mr_sched.specs.declared.schedule.Entry.{Entry}
pub use Rattle.mr_sched.specs.declared.schedule.Schedule.{Schedule}
pub use Rattle.mr_step.specs.FrameFrames.{Look}
pub use Rattle.mr_step.specs.PlanRuns.{AreLegal, Config, feet, foot_from, foot_of_bare}
unfoldable pub use Rattle.mr_step.specs.PlanRuns.{machine_step}
pub use Rattle.mr_step.specs.Standing.{Standing}
pub use Rattle.mr_step.specs.StartRuns.{at_line, entries_fault, PlacedFault, program_fault, program_step}
unfoldable pub use Rattle.mr_step.specs.StartRuns.{schedule_fault, steps_of}
unfoldable pub use Rattle.mr_step.specs.StartStart.{look_of, start_config}
pub use Rattle.mr_step.specs.ThreadSteps.{Own, thread_step}
pub use Rattle.mr_run.specs.Runs.{EntryAnswer, foot_by, IsMade, placed, RunAnswer}
