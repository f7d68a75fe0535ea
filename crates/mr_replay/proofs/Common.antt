-- The names that most proofs of this crate cite, passed on from one place. Declares nothing.
pub use Rattle.std.proofs.Common.{◌++◌, [], ◌^◌, ap, ap₂, arith, Bool, Err, false, flat_map, IfOk, if◌then◌else◌, length, List, map, None, Ok, OnOk, Option, refl, Result, slice_get, Some, subst, sym, ℕ, ◌∙◌, ◌∷◌, ◌≡◌, ◌≤◌}
pub use Rattle.std.specs.List.{range_with_len}
pub use Rattle.mr_frame.specs.PlanMachine.{needs, State}
pub use Rattle.mr_labels.specs.Table.{step_rows}
pub use Rattle.mr_labels.specs.declared.step.ToldStep.{ToldStep}
pub use Rattle.mr_run.proofs.RunLaws.{all_steps, all_taken, begins, goes_on, is_refused, IsUnderWay, left_at, run_refused, run_taken, sets_out, start_refused, steps_are}
pub use Rattle.mr_run.specs.Runs.{foot_by, placed}
pub use Rattle.mr_sched.specs.declared.schedule.Entry.{Entry}
pub use Rattle.mr_step.specs.ThreadSteps.{Own, thread_step}
pub use Rattle.mr_replay.specs.Told.{asks_at, if_between, rest_of, stand_of}
