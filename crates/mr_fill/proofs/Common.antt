-- The names that most proofs of this crate cite, passed on from one place. Declares nothing.
pub use Rattle.std.proofs.Common.{◌+◌, ◌++◌, ◌<◌, ◌==◌, [], ◌^◌, ap, append-nil, append_assoc, ap₂, arith, Bool, Contains, drop, Err, false, get_or, if◌then◌else◌, inl, inr, length, length-drop, List, None, not, Ok, Option, option_copied, refl, Result, slice_get, Some, subst, suc, sym, take, true, zero, ℕ, ◌∙◌, ◌∷◌, ◌≡◌, ◌≤◌}
pub use Rattle.std.proofs.lemmas.Option.{same_Some}
pub use Rattle.std.specs.List.{filter, slice_split}
pub use Rattle.mr_ast.specs.declared.program.Program.{Program}
pub use Rattle.mr_auto.proofs.Nexts.{weaker}
pub use Rattle.mr_auto.specs.Drawing.{Next, Picked, start_picked}
pub use Rattle.mr_auto.specs.Drawn.{BeginsDrawing, EndsBy, LiesBehind}
pub use Rattle.mr_base.specs.declared.thread.Status.{Status}
pub use Rattle.mr_sched.specs.Reading.{Gives, parts_after, parts_at}
pub use Rattle.mr_sched.specs.declared.chooser.Chooser.{Chooser}
pub use Rattle.mr_sched.specs.declared.schedule.Ask.{Ask}
pub use Rattle.mr_sched.specs.declared.schedule.Entry.{Entry}
pub use Rattle.mr_start.specs.FrameFrames.{Look}
pub use Rattle.mr_start.specs.Runs.{Legal, program_step}
pub use Rattle.mr_start.specs.Steps.{Own, thread_step}
pub use Rattle.mr_step.specs.PlanMachine.{needs, State}
pub use Rattle.mr_step.specs.PlanRuns.{Config, is_running}
unfoldable pub use Rattle.mr_step.specs.PlanRuns.{machine_step}
pub use Rattle.mr_step.specs.Standing.{Standing}
pub use Rattle.mr_typing.specs.Walk.{WellFormed}
pub use Rattle.mr_fill.specs.Filled.{AreOf, FilledAfter}
pub use Rattle.mr_fill.specs.Filling.{asked_entry, behind_entry, behind_given, enabled_entry, entry_at, entry_from, entry_in, entry_with, filled_from, Filling, filling, given, is_surplus, led, missing_code, within_limits}
unfoldable pub use Rattle.mr_fill.specs.Filling.{filled}
pub use Rattle.mr_fill.specs.Orders.{given_of, is_blank, numbered_words, on_line, order_from, starred_of, words_in}
unfoldable pub use Rattle.mr_fill.specs.Orders.{turns_of}
pub use Rattle.mr_fill.specs.Turning.{TurnAnswer}
pub use Rattle.mr_fill.specs.declared.filling.Halt.{Halt}
pub use Rattle.mr_fill.specs.declared.order.Turn.{Turn}
