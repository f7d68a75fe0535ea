-- The names that most proofs of this crate cite, passed on from one place. Declares nothing.
pub use Rattle.std.proofs.Common.{◌+◌, ◌++◌, ◌<◌, [], All, ap, ap₂, arith, Bool, Err, false, length, List, map, None, Ok, Option, refl, slice_get, slice_set, Some, subst, suc, sym, take, true, zero, ℕ, ◌∙◌, ◌∷◌, ◌≡◌}
pub use Rattle.std.proofs.lemmas.Option.{same_Some, slice_get_read, slice_get_within}
pub use Rattle.std.specs.Option.{option_map}
pub use Rattle.mr_ast.specs.declared.program.Program.{Program}
pub use Rattle.mr_eval.specs.declared.scene.Scene.{Scene}
pub use Rattle.mr_event.specs.Footprint.{Footprint}
pub use Rattle.mr_exchange.specs.StartSteps.{Own, thread_step}
pub use Rattle.mr_frame.specs.Frames.{Look}
pub use Rattle.mr_frame.specs.Kept.{look_of}
pub use Rattle.mr_mem.specs.Memory.{Memory}
pub use Rattle.mr_plan.specs.Legal.{Fault, fault}
pub use Rattle.mr_plan.specs.Limits.{AreWithin}
pub use Rattle.mr_plan.specs.Machine.{Completed, needed, needs, started_threads, State, Thread}
pub use Rattle.mr_plan.specs.Notes.{Notes, start_notes}
pub use Rattle.mr_plan.specs.Runs.{after_bare, Config, foot_from, foot_in, has_rule, printed_by}
unfoldable pub use Rattle.mr_plan.specs.Runs.{entry_fault, machine_step}
pub use Rattle.mr_sched.specs.declared.schedule.Entry.{Entry}
pub use Rattle.mr_turn.specs.Turning.{own_of, picks_break, shared_in, turn_by}
unfoldable pub use Rattle.mr_turn.specs.Turning.{planned, turned}
pub use Rattle.mr_step.specs.Advance.{ActAnswer, Advances, BeginsAct, IsDue, Stays}
pub use Rattle.mr_step.specs.Answers.{fault_of, GoAnswer, StepAnswer}
pub use Rattle.mr_step.specs.Kept.{config_of, IsSound, numbered, printed_of, setting_look, standing_thread, state_of, state_unless}
pub use Rattle.mr_step.specs.Settling.{bare_by, completed, foot_by, LeadsTo, Tells, verdict_in}
pub use Rattle.mr_step.specs.Standing.{Standing}
pub use Rattle.mr_step.specs.declared.progress.Progress.{Progress}
