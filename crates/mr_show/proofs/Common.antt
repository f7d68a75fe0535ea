-- The names that most proofs of this crate cite, passed on from one place. Declares nothing.
pub use Rattle.std.proofs.Common.{◌&&◌, ◌+◌, ◌++◌, ◌-◌, ◌<◌, ◌==◌, [], ◌^◌, ap, ap₂, arith, Bool, codes, Err, false, flat_map, IfOk, if◌then◌else◌, inl, inr, length, List, map, nat_lt, None, Ok, OnOk, Option, refl, Result, Some, subst, suc, sym, take, true, zero, ℕ, ◌∙◌, ◌∷◌, ◌≡◌, ◌≤◌, ◌⊎◌}
pub use Rattle.std.proofs.lemmas.Result.{IfOk-weaker}
pub use Rattle.std.specs.List.{find, range_with_len}
pub use Rattle.mr_ast.specs.declared.program.Program.{Program}
pub use Rattle.mr_event.specs.Footprint.{Footprint}
pub use Rattle.mr_hunt.specs.Aims.{aim_of, first_met}
pub use Rattle.mr_input.proofs.InputLaws.{less, longer, rose_in_all, was_read}
pub use Rattle.mr_input.proofs.RefusedLaws.{refused_over, same_refusal}
pub use Rattle.mr_input.specs.Answer.{Answer, form_or, refused, Tells, TellsOrUnread, told}
pub use Rattle.mr_input.specs.Inputs.{denoted, Gives, IsNoText, program_in}
pub use Rattle.mr_input.specs.declared.refusal.Refusal.{Refusal}
pub use Rattle.mr_input.specs.declared.written.Written.{Written}
pub use Rattle.mr_labels.specs.declared.rows.Allocation.{Allocation}
pub use Rattle.mr_labels.specs.declared.step.Stand.{Stand}
unfoldable pub use Rattle.mr_lex.specs.Reading.{lexed}
pub use Rattle.mr_lex.specs.declared.token.TextFault.{TextFault}
pub use Rattle.mr_listing.specs.Seen.{Seen, seen}
unfoldable pub use Rattle.mr_places.specs.GrammarParsing.{parsed}
pub use Rattle.mr_replay.specs.Spoken.{spoken_of}
pub use Rattle.mr_run.specs.Runs.{RunAnswer}
pub use Rattle.mr_run.specs.declared.fault.RunFault.{RunFault}
pub use Rattle.mr_sched.specs.declared.schedule.Entry.{Entry}
pub use Rattle.mr_sched.specs.declared.schedule.Schedule.{Schedule}
pub use Rattle.mr_sched.specs.declared.version.Read.{Read}
pub use Rattle.mr_sched.specs.declared.version.Version.{Version}
pub use Rattle.mr_start.specs.Runs.{PlacedFault}
unfoldable pub use Rattle.mr_start.specs.Runs.{schedule_fault, steps_of}
pub use Rattle.mr_step.specs.PlanLegal.{Fault}
pub use Rattle.mr_step.specs.Standing.{Standing}
unfoldable pub use Rattle.mr_trace.specs.Reading.{trace_of}
unfoldable pub use Rattle.mr_traced.specs.Places.{named_of}
pub use Rattle.mr_traced.specs.Seen.{run_in}
unfoldable pub use Rattle.mr_traced.specs.Seen.{seen_bare, seen_in}
pub use Rattle.mr_traced.specs.declared.refusal.Untold.{Untold}
pub use Rattle.mr_two_orders.specs.Pairs.{either}
pub use Rattle.mr_typing.specs.Walk.{WellFormed}
unfoldable pub use Rattle.mr_typing.specs.Walk.{faults_of}
pub use Rattle.mr_typing.specs.declared.fault.FormFault.{FormFault}
pub use Rattle.mr_why.specs.Why.{entry_of}
pub use Rattle.mr_show.specs.Answer.{answer_of, answer_under, bytes_answer, file_answer, next_under, part_answer, part_values, program_answer, ran_under, rows_in, run_seen, shown_answer, stands_in, steps_in, text_answer, told_values, why_answer}
pub use Rattle.mr_show.specs.Answering.{IsOfFile, IsOfText, IsToldAs}
pub use Rattle.mr_show.specs.Filled.{filled_answer, order_answer, order_in, unless_bad}
pub use Rattle.mr_show.specs.Form.{asked, Bare, CheckedProgram, CheckedSchedule, Form, Help, Hunted, is_name_of, Shown, Why}
pub use Rattle.mr_show.specs.Gathered.{gathered, laid_in}
pub use Rattle.mr_show.specs.Hunted.{found_answer, hunt_answer, hunted_file, hunted_program, most_in}
pub use Rattle.mr_show.specs.Next.{next_from, reached_answer, threads_told}
pub use Rattle.mr_show.specs.Outcome.{Ends, IsPossible}
pub use Rattle.mr_show.specs.Seek.{seek_of}
pub use Rattle.mr_show.specs.Traced.{alone_telling, bare_answer, count_of, holds_trace, IsTextOf, placed_answer, places_answer, seen_answer, telling_of}
pub use Rattle.mr_show.specs.declared.form.Part.{Part}
pub use Rattle.mr_show.specs.declared.form.Saying.{Saying}
