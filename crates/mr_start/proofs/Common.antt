-- The names that most proofs of this crate cite, passed on from one place. Declares nothing.
pub use Rattle.std.proofs.Common.{◌&&◌, ◌+◌, ◌++◌, ◌-◌, ◌<◌, ◌==◌, [], ◌^◌, All, ap, append-nil, append_assoc, arith, Bool, cond, drop, Err, false, get_or, if◌then◌else◌, inl, inr, length, length-append, length-drop, length-take-le, List, map, nat_lt, None, not, Ok, Option, refl, replicate, slice_get, slice_set, Some, subst, suc, sym, T, take, true, zero, ◌||◌, ℕ, ◌∙◌, ◌∷◌, ◌≡◌, ◌≢◌, ◌≤◌}
pub use Rattle.std.proofs.Math.ListN.{length-replicate, length-set}
pub use Rattle.std.proofs.lemmas.Bool.{and_parts, cases_eq, ltb-false, or_parts}
pub use Rattle.std.proofs.lemmas.List.{length-map, take_all}
pub use Rattle.std.proofs.lemmas.Option.{same_Some, slice_get_within}
pub use Rattle.mr_ast.specs.declared.program.Global_.{Global_}
pub use Rattle.mr_ast.specs.declared.program.Local.{Local}
pub use Rattle.mr_ast.specs.declared.program.Program.{Program}
pub use Rattle.mr_base.proofs.Lists.{all_at, item_there, set_there}
pub use Rattle.mr_base.specs.Script.{Broken, Done, on, Outcome, run, Undefined, Went}
pub use Rattle.mr_base.specs.declared.byte.AllocId.{AllocId}
pub use Rattle.mr_base.specs.declared.byte.Pointer.{Pointer}
pub use Rattle.mr_base.specs.declared.thread.Status.{Status}
pub use Rattle.mr_base.specs.declared.thread.Status.TheVariants.{Enabled, Ended, OnJoin, OnLock}
pub use Rattle.mr_eval.specs.MemoryQueries.{pointer_to}
pub use Rattle.mr_eval.specs.Moves.{behind}
pub use Rattle.mr_frame.proofs.PlanLegalLaws.{no_faults, picks_length}
pub use Rattle.mr_frame.proofs.PlanMemoryFacts.{MemoryFacts}
pub use Rattle.mr_frame.proofs.PlanMemoryParts.{Leaves, leaves_then, Left, memory_after, reading_after}
pub use Rattle.mr_frame.proofs.PlanOutcomes.{After, after_then}
pub use Rattle.mr_frame.proofs.PlanPositions.{set_here}
pub use Rattle.mr_frame.proofs.PlanStoreLaws.{put_one, rewritten, rewritten_size, stored_in, written_is}
pub use Rattle.mr_frame.specs.EvalTally.{start_tally}
pub use Rattle.mr_frame.specs.Fits.{FitsStack, IsLook}
pub use Rattle.mr_frame.specs.Frames.{Frame, Look, Stack}
pub use Rattle.mr_frame.specs.Operations.{DueDo}
unfoldable pub use Rattle.mr_frame.specs.Operations.{next_do}
pub use Rattle.mr_frame.specs.PlanLegal.{address_fault, creation_fault, else_fault, Fault, fault, needs_fault, picks_fault, state_fault}
pub use Rattle.mr_frame.specs.PlanMachine.{Aborts, Bare, bare, Completed, Exits, Goes, IllFormedStep, Language, Plan, started_threads, State, Stops, Thread, thread_of}
pub use Rattle.mr_frame.specs.PlanNotes.{Notes, start_notes}
pub use Rattle.mr_frame.specs.PlanQueries.{answer, memory_part, Shared, StepScript, tables_of, with_tables}
pub use Rattle.mr_frame.specs.PlanStorage.{AreHeld, Slot}
pub use Rattle.mr_frame.specs.Storage.{frame_slots, slots_with}
pub use Rattle.mr_intr.specs.SyncSound.{IsSoundTables}
pub use Rattle.mr_intr.specs.SyncTables.{over}
pub use Rattle.mr_mem.proofs.Identities.{get_here, get_there, id_total}
pub use Rattle.mr_mem.specs.Memory.{allocated, Allocation, first_overlapped, fresh, id_cmp, is_bad_address, is_multiple, Memory, pick_fault, Ranges, reused, with_range, written}
unfoldable pub use Rattle.mr_mem.specs.Memory.{range_fault, ranges_of}
pub use Rattle.mr_sched.specs.declared.schedule.Ask.{Ask}
pub use Rattle.mr_sched.specs.declared.schedule.Ask.TheVariants.{Address, Waiter}
pub use Rattle.mr_typing.specs.Broken.{item_size, items_size}
pub use Rattle.mr_typing.specs.Walk.{WellFormed}
pub use Rattle.mr_start.specs.Begin.{before_frame, fault_over, first_placed, HaveRoom, IsPossible, JudgeAnswer, own_id, piece_of, pieces_fault, return_pointer}
pub use Rattle.mr_start.specs.Judging.{address_among, least, picked}
pub use Rattle.mr_start.specs.Pieces.{HasRange}
pub use Rattle.mr_start.specs.SoundState.{FitsStatus, IsSoundConfig, SoundState, thread_slots}
pub use Rattle.mr_start.specs.Start.{ask_of, behind_store, filled, function_piece, global_bytes, global_piece, item_bytes, Piece, pieces, placed, return_piece, start_frame, start_locals, start_memory, start_placed}
unfoldable pub use Rattle.mr_start.specs.Start.{look_of, start_config, start_fault}
pub use Rattle.mr_start.specs.Steps.{new_thread, Own, reads, thread_step, Turn, with_stack}
