-- The names that most proofs of this crate cite, passed on from one place. Declares nothing.
pub use Rattle.std.proofs.Common.{◌&&◌, ◌*◌, ◌+◌, ◌++◌, ◌-◌, ◌<◌, ◌==◌, [], ◌^◌, ap, append-nil, append_assoc, arith, Bool, drop, Err, false, get_or, if◌then◌else◌, is_some, length, List, nat_le, nat_lt, None, not, Ok, Option, option_copied, refl, Result, slice_get, Some, subst, sym, take, true, ℕ, ◌∙◌, ◌∷◌, ◌≡◌, ◌≢◌}
pub use Rattle.std.proofs.lemmas.Bool.{and_parts}
pub use Rattle.std.proofs.lemmas.Option.{same_Some, slice_get_within}
pub use Rattle.std.specs.List.{list_all}
pub use Rattle.mr_ast.specs.Integers.{int_size}
pub use Rattle.mr_ast.specs.declared.program.Intrinsic.{Intrinsic}
pub use Rattle.mr_ast.specs.declared.types.IntType.{IntType}
pub use Rattle.mr_ast.specs.declared.types.IntType.TheVariants.{U32, U64}
pub use Rattle.mr_ast.specs.declared.types.Ty.{out-Ty, Ty}
pub use Rattle.mr_base.proofs.Comparisons.{eq_test, lt_from, lt_test}
pub use Rattle.mr_base.specs.Script.{◌>>=◌, Ask, Broken, Done, on, Outcome, Refused, run, Went}
pub use Rattle.mr_base.specs.Stops.{plainly, reached_by, speaks, Stop, stop_with}
pub use Rattle.mr_base.specs.declared.byte.AbstractByte.{AbstractByte}
pub use Rattle.mr_base.specs.declared.byte.Kind.TheVariants.{Heap}
pub use Rattle.mr_base.specs.declared.byte.Pointer.{Pointer}
pub use Rattle.mr_base.specs.declared.reason.Reason.{Reason}
pub use Rattle.mr_base.specs.declared.reason.Reason.TheVariants.{BadAlign, NotHolder, SizeTooLarge}
pub use Rattle.mr_base.specs.declared.thread.Event.TheVariants.{Acquire, CreateLock, Join, Release}
pub use Rattle.mr_base.specs.declared.thread.Status.{Status}
pub use Rattle.mr_base.specs.declared.thread.Status.TheVariants.{Enabled}
pub use Rattle.mr_eval.specs.Answers.{seen}
pub use Rattle.mr_eval.specs.MemoryQueries.{Allocate, Free, memory_answer, MemoryScript, Modify, number_bytes, reading_part, Write}
pub use Rattle.mr_eval.specs.Operators.{or_ill_formed, pointer_in}
pub use Rattle.mr_eval.specs.Reads.{accessing, Read, seeing}
pub use Rattle.mr_eval.specs.Shapes.{HaveShapes}
pub use Rattle.mr_eval.specs.World.{tally_of, World, world_of}
pub use Rattle.mr_eval.specs.declared.scene.Scene.{Scene}
pub use Rattle.mr_layout.proofs.SizeLaws.{size_int}
pub use Rattle.mr_layout.specs.Sizes.{align_of, size_of}
pub use Rattle.mr_mem.specs.Memory.{Memory, read, written}
unfoldable pub use Rattle.mr_mem.specs.Memory.{ranges_of}
pub use Rattle.mr_plan.proofs.LegalLaws.{no_faults, one_waiter, picks_length}
pub use Rattle.mr_plan.proofs.MemoryParts.{Leaves, leaves_then, Left}
pub use Rattle.mr_plan.proofs.Outcomes.{After}
pub use Rattle.mr_plan.specs.Legal.{creation_fault, needs_fault, picks_fault}
pub use Rattle.mr_plan.specs.Machine.{CreatesNothing, needs_of, Plan}
pub use Rattle.mr_plan.specs.Notes.{Notes, start_notes}
pub use Rattle.mr_plan.specs.Queries.{answer, Await, blocked, fits, giving, going, in_shared, memory_part, note, OfMemory, Print, Shared, StepScript, tables_of, telling, TryLock, Waiting, with_tables, woke}
pub use Rattle.mr_plan.specs.Storage.{AreHeld, Slot}
pub use Rattle.mr_sched.specs.declared.schedule.Ask.TheVariants.{Address, Waiter}
pub use Rattle.mr_sync.specs.Sound.{IsSoundTables}
pub use Rattle.mr_sync.specs.Tables.{acquired, any_waits, awaiting, created, handed, holding, joined, names_waiter, on_lock, over, released, Tables, trying, waits}
pub use Rattle.mr_typing.proofs.SameTypeLaws.{same_type_equal}
pub use Rattle.mr_typing.specs.Intrinsics.{fits_intrinsic, gives, gives_nothing, is_atomic}
pub use Rattle.mr_typing.specs.Operands.{is_bool, is_int, is_integer, is_raw, is_scalar_number}
pub use Rattle.mr_typing.specs.Types.{integer_in, integer_of}
pub use Rattle.mr_value.proofs.ShapeLaws.{has_int, has_raw, shape_int}
unfoldable pub use Rattle.mr_value.specs.Encode.{encoding_of}
pub use Rattle.mr_value.specs.Numbers.{Bytes, number_of}
unfoldable pub use Rattle.mr_value.specs.Shape.{has_shape}
pub use Rattle.mr_value.specs.declared.val.Val.{out-Val, Val}
pub use Rattle.mr_intr.specs.Atomics.{IsFetch, numbered}
pub use Rattle.mr_intr.specs.Effects.{AreLawful, begun, CanTake, Does, Fits, FitsPlace, IsDone, IsOperation, notes_in, Prints, shared_in, shared_of}
unfoldable pub use Rattle.mr_intr.specs.Effects.{operated}
pub use Rattle.mr_intr.specs.Heap.{allocation_fault}
pub use Rattle.mr_intr.specs.Operations.{acquire, allocate, allocating, assume, assuming, atomic_load, atomic_store, compare_exchange, create_lock, deallocate, exchanged, fetch, fetched, found, is_power_of_two, join, loaded, modify, number_in, Operation, operation, print, release, releasing, truth_in, unlocking, with_pick}
pub use Rattle.mr_intr.specs.Printed.{text_in, texts_in}
pub use Rattle.mr_intr.specs.Texts.{bool_text, number_text, spaced, spaced_behind, text_layer, text_of, texts_of}
pub use Rattle.mr_intr.specs.declared.effect.Effect.{Effect}
