-- The names that most proofs of this crate cite, passed on from one place. Declares nothing.
pub use Rattle.std.proofs.Common.{◌&&◌, ◌+◌, ◌++◌, ◌-◌, ◌<◌, ◌==◌, [], ◌^◌, add-zero, All, ap, append-nil, append_assoc, arith, Bool, cond, drop, Err, false, get_or, if◌then◌else◌, inl, inr, IsTrue, length, length-append, List, map, nat_lt, None, not, Ok, Option, refl, Result, slice_get, slice_index_or, Some, subst, suc, sym, take, true, zero, zero-add, ℕ, ◌↔◌, ◌∙◌, ◌∷◌, ◌≡◌, ◌≢◌, ◌≤◌, ◌⊎◌}
pub use Rattle.std.proofs.lemmas.Bool.{and_from, and_parts, both_ways, cases_Bool, eq-eqb, eqb-true, ne_eqb, not-true, or_left, or_right}
pub use Rattle.std.proofs.lemmas.List.{get_or_default, length-map}
pub use Rattle.std.proofs.lemmas.List.Elements.{filter-append}
pub use Rattle.std.specs.List.{filter, find, list_any, range_with_len}
pub use native.Mathlib.Decide.{ℕ_discrete}
pub use Rattle.mr_ast.specs.declared.program.Program.{Program}
pub use Rattle.mr_ast.specs.declared.types.Ty.{out-Ty, Ty}
unfoldable pub use Rattle.mr_base.specs.Accesses.{some_race}
pub use Rattle.mr_base.specs.Script.{◌>>=◌, Ask, Broken, Done, IllFormed, on, Outcome, Refused, run, Undefined, Went}
pub use Rattle.mr_base.specs.Stops.{plainly}
pub use Rattle.mr_base.specs.declared.byte.Pointer.{Pointer}
pub use Rattle.mr_base.specs.declared.reason.Reason.{Reason}
pub use Rattle.mr_base.specs.declared.reason.Reason.TheVariants.{DataRace, SignatureMismatch}
pub use Rattle.mr_base.specs.declared.reason.Verdict.{Verdict}
pub use Rattle.mr_eval.specs.MemoryQueries.{Allocate, MemoryScript, reading_part}
pub use Rattle.mr_eval.specs.Operators.{or_ill_formed, pointer_in, pointer_of_value}
pub use Rattle.mr_eval.specs.Reads.{answered, Check, ReadScript}
pub use Rattle.mr_eval.specs.Typed.{meaningless}
unfoldable pub use Rattle.mr_eval.specs.Typed.{loading}
pub use Rattle.mr_event.proofs.Tests.{happens_before_is, not_false}
pub use Rattle.mr_event.specs.Footprint.{Footprint}
unfoldable pub use Rattle.mr_event.specs.Footprints.{depends, wakes}
pub use Rattle.mr_event.specs.Kept.{kept, selected}
pub use Rattle.mr_event.specs.Order.{HappensBefore, IsRearrangement, places, step_at, thread_at}
unfoldable pub use Rattle.mr_event.specs.Order.{no_step}
unfoldable pub use Rattle.mr_event.specs.Predicted.{happens_before, predicted}
pub use Rattle.mr_exchange.proofs.Choices.{short_selects}
pub use Rattle.mr_exchange.proofs.Exchanged.{NotesThread, sound_then}
pub use Rattle.mr_exchange.proofs.First.{first_of_predicted}
pub use Rattle.mr_exchange.proofs.Law.{law_of, thread_noted}
pub use Rattle.mr_exchange.proofs.Lists.{Ahead, Ahead-filter, Ahead-places, Each, Each-at, Each-filter, Each-places, Each-weaker, filter-agree, filter-kept, filter-left_out, range_with_len-parts}
pub use Rattle.mr_exchange.proofs.Sane.{sound_is_sane}
pub use Rattle.mr_exchange.proofs.StartStartSound.{start_look, start_sound}
pub use Rattle.mr_exchange.specs.PlanQueries.{answer, memory_part, OfMemory, Shared, StepScript}
pub use Rattle.mr_exchange.specs.StartRuns.{Legal}
unfoldable pub use Rattle.mr_exchange.specs.StartRuns.{run_of, steps_of}
unfoldable pub use Rattle.mr_exchange.specs.StartStart.{look_of, start_config}
pub use Rattle.mr_exchange.specs.Swap.{IsSane, SwapLaw}
pub use Rattle.mr_exchange.specs.Trace.{AreIndependent, IsAmong, IsFirstPair, IsReported, Machine, Runs, short_keeps}
pub use Rattle.mr_exchange.specs.Witness.{entry_at, IsWitness, schedule_at}
unfoldable pub use Rattle.mr_exchange.specs.Witness.{kept_schedule}
pub use Rattle.mr_sched.specs.declared.schedule.Entry.{Entry}
pub use Rattle.mr_sched.specs.declared.schedule.Schedule.{Schedule}
pub use Rattle.mr_value.specs.Numbers.{number_of}
pub use Rattle.mr_value.specs.declared.val.Val.{out-Val, Val}
pub use Rattle.mr_witness.specs.Board.{IsBoard, IsNextOf, left_of}
pub use Rattle.mr_witness.specs.EveryOrder.{ComesToTheSame, prints_of, reordered, StandAlike}
pub use Rattle.mr_witness.specs.FrameFits.{IsLook}
pub use Rattle.mr_witness.specs.FrameFrames.{Look}
pub use Rattle.mr_witness.specs.Marks.{AreEnds, AreMarks, AreRivalsBelow}
pub use Rattle.mr_witness.specs.PlanLegal.{state_fault}
pub use Rattle.mr_witness.specs.PlanMachine.{Bare, bare, Completed, IllFormedStep, Language, State, Stops}
pub use Rattle.mr_witness.specs.PlanRuns.{after, after_bare, AreLegal, Config, feet, foot_in, foot_of_bare, Printed, printed_by, races_with, verdict_after}
unfoldable pub use Rattle.mr_witness.specs.PlanRuns.{entry_fault, machine_step}
pub use Rattle.mr_witness.specs.Short.{short_schedule}
pub use Rattle.mr_witness.specs.Shuffled.{above_threads, drawn_step, earliest_of, free_step, is_free, is_ready, placed_in, ready_threads, shuffled, step_or_first, without}
unfoldable pub use Rattle.mr_witness.specs.Shuffled.{shuffled_order}
pub use Rattle.mr_witness.specs.StartSteps.{Own, thread_step}
pub use Rattle.mr_witness.specs.ThreadSoundState.{SoundState}
pub use Rattle.mr_witness.specs.TypingWalk.{WellFormed}
