-- The names that most proofs of this crate cite, passed on from one place. Declares nothing.
pub use Rattle.std.proofs.Common.{◌++◌, ◌<◌, [], ◌^◌, ap, arith, codes, Err, inl, inr, length, List, None, Ok, Option, refl, Result, Some, subst, sym, ℕ, ◌∙◌, ◌∷◌, ◌≡◌, ◌≤◌, ◌⊎◌}
pub use Rattle.mr_answer.proofs.StatusLaws.{at_most_one, races_least, reported_least}
pub use Rattle.mr_answer.specs.Answers.{big_answer, big_schedule, listed, Ran, ran, reported, unless_broken}
pub use Rattle.mr_answer.specs.declared.formats.Format.{Format}
pub use Rattle.mr_ast.specs.declared.program.Program.{Program}
pub use Rattle.mr_event.specs.Footprint.{Footprint}
unfoldable pub use Rattle.mr_event.specs.Predicted.{predicted}
pub use Rattle.mr_input.proofs.InputLaws.{was_read}
pub use Rattle.mr_input.proofs.RefusedLaws.{same_refusal, written_status}
pub use Rattle.mr_input.specs.Answer.{Answer, form_or, refused, Tells, told}
pub use Rattle.mr_input.specs.Inputs.{denoted, holding, IsRead, program_in, schedule_in, spelled}
pub use Rattle.mr_input.specs.Writing.{IsLeft, IsRefusedOrLeft, IsWritten}
pub use Rattle.mr_input.specs.declared.refusal.Refusal.{Refusal}
pub use Rattle.mr_input.specs.declared.written.Written.{Written}
pub use Rattle.mr_io.specs.Counts.{Rose}
pub use Rattle.mr_io.specs.Files.{Contents}
pub use Rattle.mr_lex.specs.declared.token.TextFault.{TextFault}
pub use Rattle.mr_run.specs.StartRuns.{PlacedFault}
unfoldable pub use Rattle.mr_run.specs.StartRuns.{run_of, schedule_fault, steps_of}
pub use Rattle.mr_sched.specs.declared.schedule.Schedule.{Schedule}
pub use Rattle.mr_sched.specs.declared.version.Read.{Read}
pub use Rattle.mr_sched.specs.declared.version.Version.{Version}
pub use Rattle.mr_typing.specs.Walk.{WellFormed}
unfoldable pub use Rattle.mr_typing.specs.Walk.{faults_of}
pub use Rattle.mr_typing.specs.declared.fault.FormFault.{FormFault}
pub use Rattle.mr_command.specs.Answer.{answer_of, races_in, read_report, report_under, run_answer, said, said_answer, shown, upgrade_answer, upgraded}
pub use Rattle.mr_command.specs.Command.{asked, Command, command_of, NamesProgram, OfNumber, OfProgram, OfSchedule, OfTrace, Run}
pub use Rattle.mr_command.specs.Named.{AsksOf, IsTold, LacksFile, NamesRun, Upgrades}
pub use Rattle.mr_command.specs.Outcome.{Ends, EndsOverTexts, IsPossible}
pub use Rattle.mr_command.specs.Showing.{HasBytes, Shown}
pub use Rattle.mr_command.specs.declared.command.Saying.{Saying}
