-- The names that most proofs of this crate cite, passed on from one place. Declares nothing.
pub use Rattle.std.proofs.Common.{◌++◌, [], All, ap, ap₂, arith, Bool, Err, false, IfOk, if◌then◌else◌, length, List, map, None, Ok, OnOk, Option, refl, Result, slice_get, Some, subst, sym, take, true, ℕ, ◌∙◌, ◌∷◌, ◌≡◌, ◌≤◌}
pub use Rattle.std.proofs.lemmas.List.Elements.{All-cons, All-head, All-nil, All-tail}
pub use Rattle.std.specs.List.{list_all}
pub use Rattle.mr_ast.specs.declared.program.Program.{Program}
pub use Rattle.mr_event.specs.Footprint.{Footprint}
unfoldable pub use Rattle.mr_event.specs.Predicted.{predicted}
pub use Rattle.mr_event.specs.declared.footprint.Pair.{Pair}
pub use Rattle.mr_input.specs.Answer.{Answer, seen, Tells}
pub use Rattle.mr_input.specs.declared.written.Written.{Written}
pub use Rattle.mr_report.specs.Json.{is_printed}
pub use Rattle.mr_run.proofs.StepCount.{steps_within}
pub use Rattle.mr_sched.specs.declared.schedule.Schedule.{Schedule}
pub use Rattle.mr_sched.specs.declared.version.Version.{Version}
pub use Rattle.mr_sched.specs.declared.version.Version.TheVariants.{One}
pub use Rattle.mr_step.specs.PlanRuns.{Config, Printed}
pub use Rattle.mr_step.specs.StartRuns.{Legal}
unfoldable pub use Rattle.mr_step.specs.StartRuns.{run_of, steps_of}
pub use Rattle.mr_step.specs.ThreadSteps.{Own}
pub use Rattle.mr_witness.specs.Shuffled.{shuffled}
pub use Rattle.mr_answer.specs.Answers.{behind_schedule, ordered_answer, Ran, reported, shuffled_answer, told_by, told_in}
pub use Rattle.mr_answer.specs.Report.{line_of}
pub use Rattle.mr_answer.specs.declared.formats.Format.TheVariants.{Text}
