-- The names that most proofs of this crate cite, passed on from one place. Declares nothing.
pub use Rattle.std.proofs.Common.{◌%◌, ◌*◌, ◌+◌, ◌++◌, ◌-◌, ◌/◌, ◌<◌, ◌==◌, [], ◌^◌, ap, append-nil, append_assoc, ap₂, arith, Bool, Contains, drop, Err, false, get_or, if◌then◌else◌, inl, inr, length, List, map, nat_lt, None, not, Ok, Option, refl, Result, slice_get, Some, subst, suc, sym, true, zero, ℕ, ◌∙◌, ◌∷◌, ◌≡◌, ◌≤◌}
pub use Rattle.std.proofs.Math.Nat.{mod-lt}
pub use Rattle.std.proofs.lemmas.Option.{same_Some}
pub use Rattle.std.specs.List.{filter, range_with_len}
pub use Rattle.mr_ast.specs.declared.program.Program.{Program}
pub use Rattle.mr_base.specs.declared.thread.Status.{Status}
pub use Rattle.mr_base.specs.declared.thread.Status.TheVariants.{Enabled}
pub use Rattle.mr_run.proofs.StepPlanElementLaws.{Contains-nil}
pub use Rattle.mr_run.specs.StepPlanLegal.{creation_fault, Fault}
pub use Rattle.mr_run.specs.StepPlanMachine.{Bare, bare, Completed, Goes, IllFormedStep, needs, State, Stops}
pub use Rattle.mr_run.specs.StepPlanRuns.{after, after_bare, Config, feet, is_running, stepped_from}
unfoldable pub use Rattle.mr_run.specs.StepPlanRuns.{machine_step}
pub use Rattle.mr_run.specs.StepStanding.{Standing}
pub use Rattle.mr_run.specs.StepSwapMeets.{addresses, IsTaken}
pub use Rattle.mr_sched.specs.Chooser.{address_from, aligned_from, behind_address, behind_bytes, behind_draw, first_chooser, has_address}
pub use Rattle.mr_sched.specs.declared.chooser.Chooser.{Chooser}
pub use Rattle.mr_sched.specs.declared.schedule.Ask.{Ask}
pub use Rattle.mr_sched.specs.declared.schedule.Entry.{Entry}
pub use Rattle.mr_start.specs.FrameFrames.{Look}
pub use Rattle.mr_start.specs.Start.{ask_of, Piece, pieces}
unfoldable pub use Rattle.mr_start.specs.Start.{look_of, start_config, start_fault}
pub use Rattle.mr_start.specs.Steps.{Own, thread_step}
pub use Rattle.mr_start.specs.SyncTables.{is_enabled, on_lock}
pub use Rattle.mr_typing.specs.Walk.{WellFormed}
pub use Rattle.mr_auto.specs.Answers.{AreAddresses, NextAnswer}
pub use Rattle.mr_auto.specs.Drawing.{candidate, drawn_entries, enabled_in, entry_by, entry_from, entry_of, found, led, Next, next_at, next_in, Picked, picked, put, schedule_from, start_picked, within_limits}
unfoldable pub use Rattle.mr_auto.specs.Drawing.{drawn_schedule}
pub use Rattle.mr_auto.specs.Drawn.{BeginsDrawing, drawn_from_here, DrawnAfter, EndsBy, LiesBehind}
