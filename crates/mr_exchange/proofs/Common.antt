-- The names that most proofs of this crate cite, passed on from one place. Declares nothing.
pub use Rattle.std.proofs.Common.{◌&&◌, ◌+◌, ◌++◌, ◌-◌, ◌<◌, ◌==◌, [], ◌^◌, All, Any, ap, append-nil, append_assoc, arith, Bool, cond, Contains, Err, false, get_or, if◌then◌else◌, inl, inr, length, List, map, nat_lt, None, not, Ok, Option, refl, Result, slice_get, slice_set, Some, subst, suc, sym, true, zero, zero-add, ◌||◌, ℕ, ◌∙◌, ◌∷◌, ◌≡◌, ◌≢◌, ◌≤◌, ◌⊎◌}
pub use Rattle.std.proofs.lemmas.Bool.{and_from, and_parts, both_ways, cases_Bool, cases_eq, eq-eqb, eqb-true, lt-ltb, ne_eqb, not-true, or_left, or_parts, or_right}
pub use Rattle.std.proofs.lemmas.List.{length-map, length-set, length_push}
pub use Rattle.std.proofs.lemmas.List.Elements.{All-append, All-cons, All-nil, Contains-append_cases, Contains-append_left, Contains-append_right, Contains-push, Contains-push_cases}
pub use Rattle.std.proofs.lemmas.Option.{same_Some, slice_get_past, slice_get_within}
pub use Rattle.std.specs.List.{filter, list_any, range_with_len}
pub use Rattle.std.specs.List.Sorted.{IsStrictlyIncreasing}
pub use Rattle.std.specs.Option.{option_map}
pub use native.Mathlib.Decide.{dec_lt, ℕ_discrete}
pub use Rattle.mr_ast.specs.declared.program.Function.{Function}
pub use Rattle.mr_ast.specs.declared.program.Program.{Program}
pub use Rattle.mr_ast.specs.declared.types.Ty.{Ty}
pub use Rattle.mr_base.proofs.Lists.{set_there}
pub use Rattle.mr_base.proofs.ScriptSwaps.{Apart, goes_on}
unfoldable pub use Rattle.mr_base.specs.Accesses.{some_conflict, some_race}
pub use Rattle.mr_base.specs.Script.{◌>>=◌, Ask, Broken, Done, IllFormed, on, Outcome, run, Undefined, Went}
pub use Rattle.mr_base.specs.Stops.{plainly}
pub use Rattle.mr_base.specs.declared.access.Access.{Access}
pub use Rattle.mr_base.specs.declared.byte.AllocId.{AllocId}
pub use Rattle.mr_base.specs.declared.byte.Pointer.{Pointer}
pub use Rattle.mr_base.specs.declared.thread.Event.{Event}
pub use Rattle.mr_base.specs.declared.thread.Event.TheVariants.{Acquire, CreateLock, Join, Quiet, Release, Spawn}
pub use Rattle.mr_base.specs.declared.thread.Status.{Status}
pub use Rattle.mr_base.specs.declared.thread.Status.TheVariants.{Enabled, Ended, OnJoin, OnLock}
pub use Rattle.mr_event.proofs.Ordered.{Edge-before, HappensBefore-before, last_edge, some_race_sym, woken_before}
pub use Rattle.mr_event.specs.FootOk.{IsAccessOk, IsFootOk}
pub use Rattle.mr_event.specs.Footprint.{Footprint}
pub use Rattle.mr_event.specs.Footprints.{spawns}
unfoldable pub use Rattle.mr_event.specs.Footprints.{depends, wakes}
pub use Rattle.mr_event.specs.Order.{Edge, HappensBefore, IsRearrangement, places, RacePair, step_at, thread_at}
unfoldable pub use Rattle.mr_event.specs.Order.{no_step}
pub use Rattle.mr_event.specs.Order.Edge.{dependent, in_thread, woken}
pub use Rattle.mr_event.specs.Order.HappensBefore.{chain, edge}
pub use Rattle.mr_layout.specs.Sizes.{align_of, size_of}
pub use Rattle.mr_mem.specs.Memory.{Allocation, id_cmp, Memory, Range, Ranges}
unfoldable pub use Rattle.mr_mem.specs.Memory.{ranges_of}
pub use Rattle.mr_sched.specs.declared.schedule.Ask.TheVariants.{Address, Waiter}
pub use Rattle.mr_sched.specs.declared.schedule.Entry.{Entry}
pub use Rattle.mr_start.proofs.PlanElementLaws.{Contains-nil, Contains-one}
pub use Rattle.mr_start.proofs.PlanMemoryFacts.{MemoryFacts, start_facts}
pub use Rattle.mr_start.proofs.PlanTallyGrows.{longer_contains, tally_grows}
pub use Rattle.mr_start.proofs.PlanWentLaws.{at_outcome}
pub use Rattle.mr_start.proofs.StartSound.{start_look, start_sound}
pub use Rattle.mr_start.specs.EvalMemoryQueries.{Allocate, Free, MemoryReply, MemoryScript, Modify, Reading, reading_part, Write}
pub use Rattle.mr_start.specs.EvalOperators.{pointer_in, pointer_of_value}
pub use Rattle.mr_start.specs.FrameCalls.{enter, kept_types, resume, return_from, same_types, storage_asks, unwind}
unfoldable pub use Rattle.mr_start.specs.FrameCalls.{callee_of}
pub use Rattle.mr_start.specs.FrameFits.{IsLook}
pub use Rattle.mr_start.specs.FrameFrames.{GoesOn, Look, Onward, scene_in, Stack}
pub use Rattle.mr_start.specs.EvalTally.{Tally}
pub use Rattle.mr_start.specs.PlanLegal.{count_of, else_fault, fault, picks_fault, state_fault}
pub use Rattle.mr_start.specs.PlanMachine.{Aborts, bare, Completed, CreatesLock, CreatesNothing, CreatesThread, Creation, Exits, Flow, Goes, Language, Needs, needs, State, Thread, thread_of}
pub use Rattle.mr_start.specs.PlanNotes.{event_of, foot_of, Notes, start_notes}
unfoldable pub use Rattle.mr_start.specs.PlanNotes.{accesses_in}
pub use Rattle.mr_start.specs.PlanQueries.{answer, Await, blocked, Finish, in_shared, NewLock, note, OfMemory, Print, Query, Reply, Shared, Start, StepScript, tables_of, TryLock, Unlock, Waiting, woke}
pub use Rattle.mr_start.specs.SoundState.{IsSoundConfig, SoundState}
unfoldable pub use Rattle.mr_start.specs.Start.{look_of, start_config}
pub use Rattle.mr_start.specs.Steps.{Own, thread_step}
unfoldable pub use Rattle.mr_start.specs.Steps.{own_step}
pub use Rattle.mr_start.specs.SyncTables.{any_waiting, any_waits, handed, holding, joiners, on_join, on_lock, over, Tables, wake}
pub use Rattle.mr_start.specs.TypingWalk.{WellFormed}
pub use Rattle.mr_value.specs.declared.val.Val.{out-Val, Val}
pub use Rattle.mr_exchange.specs.Meets.{addresses, AreNewIn, Exchanged, HasRoom, IsLegalEntry, Meets, MeetsAfter}
pub use Rattle.mr_exchange.specs.PlanMachine.{Bare, IllFormedStep, Plan, Stops}
pub use Rattle.mr_exchange.specs.PlanRuns.{after_bare, AreLegal, Config, feet, foot_from, foot_in, foot_of_bare, stepped_from}
unfoldable pub use Rattle.mr_exchange.specs.PlanRuns.{entry_fault, machine_step}
pub use Rattle.mr_exchange.specs.Spots.{ActsOn, At, at_spot, EndsThread, Holder, InMemory, IsCreation, IsGoing, IsSpawn, LockCount, Over, Reads, Spot, ThreadCount, WaitsJoin, WaitsLock, Writes}
pub use Rattle.mr_exchange.specs.Swap.{AreExchanged, HasOneEvent, IsCreated, IsSane, IsStarted, IsTelling, IsWaiter, StepTold, SwapLaw}
pub use Rattle.mr_exchange.specs.Trace.{AreIndependent, IsAmong, IsFirstPair, IsPlacing, IsReported, Machine, Runs, Selects, short_keeps}
