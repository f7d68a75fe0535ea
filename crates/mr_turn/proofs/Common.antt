-- The names that most proofs of this crate cite, passed on from one place. Declares nothing.
pub use Rattle.std.proofs.Common.{◌&&◌, [], ap, ap₂, arith, Bool, Err, false, if◌then◌else◌, length, List, None, Ok, Option, refl, Result, slice_get, Some, subst, sym, true, ℕ, ◌∙◌, ◌∷◌, ◌≡◌}
pub use Rattle.std.proofs.lemmas.Option.{same_Some}
pub use Rattle.std.specs.Option.{option_map}
pub use Rattle.mr_ast.specs.declared.program.Function.{Function}
pub use Rattle.mr_ast.specs.declared.program.Intrinsic.{Intrinsic}
pub use Rattle.mr_ast.specs.declared.types.Ty.{Ty}
pub use Rattle.mr_base.proofs.ScriptRuns.{run_bind}
pub use Rattle.mr_base.specs.Script.{◌>>=◌, Broken, Done, on, Outcome, Refused, run, Undefined, Went}
pub use Rattle.mr_base.specs.Stops.{plainly, Stop, stop_with}
pub use Rattle.mr_base.specs.declared.byte.Pointer.{Pointer}
pub use Rattle.mr_base.specs.declared.reason.Reason.{Reason}
pub use Rattle.mr_base.specs.declared.reason.Reason.TheVariants.{NoPayload, NotAFunction, SignatureMismatch}
pub use Rattle.mr_eval.specs.Answers.{seen}
pub use Rattle.mr_eval.specs.MemoryQueries.{memory_answer, MemoryScript, reading_part}
pub use Rattle.mr_eval.specs.Reads.{reading, Seen}
pub use Rattle.mr_eval.specs.Tally.{seen_of, Tally, with_seen}
pub use Rattle.mr_eval.specs.World.{tally_of, TellsBy, world_of}
pub use Rattle.mr_eval.specs.declared.scene.Scene.{Scene}
pub use Rattle.mr_frame.proofs.DoSafe.{ValueFits}
pub use Rattle.mr_frame.proofs.PlanReadingRuns.{memory_then, moved_to, on_then, reading_run, tallied}
pub use Rattle.mr_frame.proofs.ResultFits.{result_fits}
pub use Rattle.mr_frame.specs.Acting.{nothing_seen}
pub use Rattle.mr_frame.specs.Calls.{both_there, enter, kept_types, same_types, storage_asks}
unfoldable pub use Rattle.mr_frame.specs.Calls.{callee_of}
pub use Rattle.mr_frame.specs.Doing.{operands_of}
unfoldable pub use Rattle.mr_frame.specs.Effects.{acted, argued, finished}
pub use Rattle.mr_frame.specs.Frames.{Look, Onward, Stack}
pub use Rattle.mr_frame.specs.Kept.{IsReady, look_of, onward_of, stack_of}
pub use Rattle.mr_frame.specs.Operations.{DueDo, Operands, operands, OperandsFit}
unfoldable pub use Rattle.mr_frame.specs.Operations.{next_do}
pub use Rattle.mr_frame.specs.PlanLegal.{else_fault, needs_fault, picks_fault}
pub use Rattle.mr_frame.specs.PlanMachine.{CreatesNothing, CreatesThread, Goes, needs_of, no_needs, Plan}
pub use Rattle.mr_frame.specs.PlanNotes.{Notes, start_notes}
pub use Rattle.mr_frame.specs.PlanQueries.{answer, Shared, StepScript, with_tables}
unfoldable pub use Rattle.mr_frame.specs.Steps.{frame_plan}
pub use Rattle.mr_frame.specs.declared.dos.DoCall.{DoCall}
pub use Rattle.mr_intr.specs.Effects.{Fits, IsOperation, shared_of}
pub use Rattle.mr_intr.specs.Needs.{TellsNeeds}
pub use Rattle.mr_intr.specs.Operations.{Operation, operation}
pub use Rattle.mr_mem.specs.Memory.{Memory}
unfoldable pub use Rattle.mr_mem.specs.Memory.{ranges_of}
pub use Rattle.mr_sched.specs.declared.schedule.Ask.{Ask}
pub use Rattle.mr_sched.specs.declared.schedule.Ask.TheVariants.{Address}
pub use Rattle.mr_start.specs.Steps.{finishing, new_thread, operated, Own, thread_types, Turn}
pub use Rattle.mr_sync.specs.Tables.{spawned, Tables}
pub use Rattle.mr_value.specs.declared.val.Val.{Val}
pub use Rattle.mr_turn.specs.Asking.{AsksAnswer, may_ask, step_needs}
pub use Rattle.mr_turn.specs.Doing.{CanEnd, do_breaks, do_comes_to, EndAnswer, IsGiven, IsNewThread, IsNoted, IsTold}
unfoldable pub use Rattle.mr_turn.specs.Doing.{do_planned, do_turned}
pub use Rattle.mr_turn.specs.Turning.{asks_break, begun, breaks, comes_to, DeedAnswer, Does, fault_from, is_end, IsJudged, IsSame, JudgeAnswer, own_of, picks_break, printed_lines, shared_in, StopAnswer, turn_by, TurnAnswer, Turned}
unfoldable pub use Rattle.mr_turn.specs.Turning.{planned, turned}
pub use Rattle.mr_turn.specs.declared.deed.Deed.{Deed}
pub use Rattle.mr_turn.specs.declared.deed.TurnFault.{TurnFault}
