-- The names that most proofs of this crate cite, passed on from one place. Declares nothing.
pub use Rattle.std.proofs.Common.{◌&&◌, ◌+◌, ◌++◌, ◌-◌, ◌<◌, ◌==◌, [], ◌^◌, add-one, All, ap, append-nil, append_assoc, arith, Bool, cond, drop, Err, false, get_or, if◌then◌else◌, inl, inr, is_some, length, length-drop, List, map, nat_le, None, Ok, OnOk, Option, option_copied, refl, replicate, Result, slice_get, slice_index_or, slice_set, Some, subst, suc, sym, true, zero, ◌||◌, ℕ, ◌∙◌, ◌∷◌, ◌≡◌, ◌≢◌, ◌≤◌}
pub use Rattle.std.proofs.Math.ListN.{length-set}
pub use Rattle.std.proofs.Math.Seq.{drop-cons}
pub use Rattle.std.proofs.lemmas.Bool.{and_from, and_parts, cases_eq, or_parts}
pub use Rattle.std.proofs.lemmas.Bool.Decides.{nat_tests}
pub use Rattle.std.proofs.lemmas.List.{drop_all, length-map, length-replicate}
pub use Rattle.std.proofs.lemmas.List.Elements.{All-cons, All-head, All-nil, All-tail}
pub use Rattle.std.proofs.lemmas.Option.{same_Some, slice_get_cases, slice_get_within}
pub use Rattle.std.specs.List.{flat_map, list_all, list_any}
pub use Rattle.std.specs.Option.{option_map}
pub use Rattle.mr_ast.specs.Shaped.{is_block, is_optional_block, is_optional_place, is_shaped_stmt, is_shaped_target, is_shaped_term, named_in}
pub use Rattle.mr_ast.specs.ShapedTypes.{is_shaped_num}
pub use Rattle.mr_ast.specs.ShapedValues.{Named}
unfoldable pub use Rattle.mr_ast.specs.ShapedValues.{is_shaped_place, is_shaped_value}
pub use Rattle.mr_ast.specs.declared.expr.Place.{Place}
pub use Rattle.mr_ast.specs.declared.expr.Value.{Value}
pub use Rattle.mr_ast.specs.declared.program.Block.{Block}
pub use Rattle.mr_ast.specs.declared.program.BlockName.{BlockName}
pub use Rattle.mr_ast.specs.declared.program.Function.{Function}
pub use Rattle.mr_ast.specs.declared.program.Intrinsic.{Intrinsic}
pub use Rattle.mr_ast.specs.declared.program.Local.{Local}
pub use Rattle.mr_ast.specs.declared.program.LocalName.{LocalName}
pub use Rattle.mr_ast.specs.declared.program.Program.{Program}
pub use Rattle.mr_ast.specs.declared.program.Stmt.{Stmt}
pub use Rattle.mr_ast.specs.declared.program.Term.{Term}
pub use Rattle.mr_ast.specs.declared.types.Num.{Num}
pub use Rattle.mr_ast.specs.declared.types.Tag.{Tag}
pub use Rattle.mr_ast.specs.declared.types.Ty.{out-Ty, Ty}
pub use Rattle.mr_ast.specs.declared.types.Ty.TheOpen.{Ty-F}
pub use Rattle.mr_ast.specs.declared.types.Variant.{Variant}
pub use Rattle.mr_base.proofs.Comparisons.{eq_test, lt_from}
pub use Rattle.mr_base.proofs.Lists.{all_at, item_there}
pub use Rattle.mr_base.proofs.ScriptRuns.{run_bind}
pub use Rattle.mr_base.specs.Script.{◌>>=◌, Broken, Done, IllFormed, on, Outcome, Refused, run, Undefined, Went}
pub use Rattle.mr_base.specs.Stops.{plainly, reached_by, Stop, stop_with}
pub use Rattle.mr_base.specs.declared.byte.AllocId.{AllocId}
pub use Rattle.mr_base.specs.declared.byte.Pointer.{Pointer}
pub use Rattle.mr_base.specs.declared.reached.Reached.{Reached}
pub use Rattle.mr_base.specs.declared.reason.Reason.TheVariants.{MainReturned, SignatureMismatch}
pub use Rattle.mr_eval.proofs.ExprSafe.{place_safe, value_safe}
pub use Rattle.mr_eval.proofs.OperatorsSafe.{Shaped}
pub use Rattle.mr_eval.proofs.SafeLaws.{loading_safe, safe_found, safe_then}
pub use Rattle.mr_eval.specs.Answers.{seen}
pub use Rattle.mr_eval.specs.Environment.{env_surround, Leaves, ShapedAs, Tells}
unfoldable pub use Rattle.mr_eval.specs.Evaluated.{each_valued, placed, read_typed, valued}
pub use Rattle.mr_eval.specs.Evaluation.{stored, Surround, values_script}
unfoldable pub use Rattle.mr_eval.specs.Evaluation.{place_script, value_script}
pub use Rattle.mr_eval.specs.MemoryQueries.{Allocate, memory_answer, MemoryScript, next_id, reading_part}
pub use Rattle.mr_eval.specs.Moves.{behind}
pub use Rattle.mr_eval.specs.Operators.{or_ill_formed, pointer_in, pointer_of_value}
pub use Rattle.mr_eval.specs.Reads.{answered, reading, ReadScript, Seen}
pub use Rattle.mr_eval.specs.Shapes.{HaveShapes}
pub use Rattle.mr_eval.specs.Sound.{any_result, around, IsSafe, Stands}
pub use Rattle.mr_eval.specs.Stores.{storing}
unfoldable pub use Rattle.mr_eval.specs.Stores.{stored_typed}
pub use Rattle.mr_eval.specs.Tally.{seen_of, with_seen}
unfoldable pub use Rattle.mr_eval.specs.Typed.{loading}
pub use Rattle.mr_eval.specs.World.{tally_of, TellsBy, World, world_of}
pub use Rattle.mr_eval.specs.declared.env.Env.{Env}
pub use Rattle.mr_eval.specs.declared.scene.Scene.{Scene}
pub use Rattle.mr_layout.specs.EnumRules.{are_tags, same_num}
pub use Rattle.mr_layout.specs.Sizes.{align_of, size_of}
pub use Rattle.mr_layout.specs.TypeOk.{TypeOk}
pub use Rattle.mr_mem.proofs.Identities.{get_there}
pub use Rattle.mr_mem.specs.Memory.{allocated, fresh, Memory, pick_fault}
unfoldable pub use Rattle.mr_mem.specs.Memory.{range_fault, ranges_of}
pub use Rattle.mr_mem.specs.declared.fault.Fault.{Fault}
pub use Rattle.mr_plan.proofs.ReadingRuns.{on_then, reading_then}
pub use Rattle.mr_plan.proofs.SafetyLaws.{change_then, on_itself, read_then}
pub use Rattle.mr_plan.specs.Legal.{picks_fault}
pub use Rattle.mr_plan.specs.Machine.{CreatesNothing, Plan}
pub use Rattle.mr_plan.specs.Safety.{IsSafeChange}
pub use Rattle.mr_sched.specs.declared.schedule.Ask.{Ask}
pub use Rattle.mr_typing.proofs.KindLaws.{bool_is, fn_ptr_is, raw_is}
pub use Rattle.mr_typing.proofs.NothingLaws.{both_nothing}
pub use Rattle.mr_typing.proofs.TypedStmts.{typed_assign, typed_call, typed_disc_stmt, typed_do, typed_switch, typed_unwind}
pub use Rattle.mr_typing.specs.Blocks.{broken_in_parts, broken_in_result, broken_in_stmt, is_allowed, is_kept}
pub use Rattle.mr_typing.specs.Broken.{sizes_of, surroundings}
unfoldable pub use Rattle.mr_typing.specs.Broken.{broken_in_place, broken_in_value}
pub use Rattle.mr_typing.specs.Operands.{is_bool, is_fn_ptr, is_integer, is_raw, is_scalar_number}
unfoldable pub use Rattle.mr_typing.specs.SameTypes.{same_type}
pub use Rattle.mr_typing.specs.Types.{integer_in, tags_among, tags_layer, variant_type}
unfoldable pub use Rattle.mr_typing.specs.Types.{type_of_place, type_of_value}
pub use Rattle.mr_typing.specs.Walk.{begins_regular, WellFormed}
pub use Rattle.mr_value.specs.Encode.{blank, tag_bytes}
unfoldable pub use Rattle.mr_value.specs.Encode.{encoding_of}
unfoldable pub use Rattle.mr_value.specs.Shape.{has_shape}
pub use Rattle.mr_value.specs.declared.val.Val.{out-Val, Val}
pub use Rattle.mr_frame.specs.Acting.{AreLawful, nothing_seen}
pub use Rattle.mr_frame.specs.Beginning.{CanAllocate, CanBegin, HasTypes}
unfoldable pub use Rattle.mr_frame.specs.Beginning.{allocated_each, stored_each}
pub use Rattle.mr_frame.specs.Calling.{arg_types, ArgsIn, called, called_function, called_with, CallIn, HasLocals, Prepared, Prepares, TypedIn, written_types}
unfoldable pub use Rattle.mr_frame.specs.Calling.{prepared}
pub use Rattle.mr_frame.specs.Calls.{all_there, allocate_each, behind_first, both_there, call, call_function, call_number, call_plan, calling, enter, enter_at, enter_with, first_frame, FramePlan, free_each, give_result, give_to, given_types, goes_to, is_main, kept_types, leave, local_type, position_from, resume, return_from, return_value, same_pointer, same_types, storage_asks, store_each, Targets, targets_of, unwind, unwind_in, unwind_to, with_each}
unfoldable pub use Rattle.mr_frame.specs.Calls.{callee_of}
pub use Rattle.mr_frame.specs.Changes.{assign, Change, change, deinit, free_storage, IsChange, mention, set_discriminant, store, tags_in, validate, with_type, write, write_found, write_tags}
pub use Rattle.mr_frame.specs.Doing.{FitsResult, is_plain, operands_of, PlainIn, ResultIn}
unfoldable pub use Rattle.mr_frame.specs.Doing.{given_operands, result_stored}
pub use Rattle.mr_frame.specs.Effects.{asks_of, changed, Left, stored_at, tagged, there_or_broken, unstored}
unfoldable pub use Rattle.mr_frame.specs.Effects.{acted, asked, assigned, chosen, entered, finished, pointed, renewed, stored_in}
pub use Rattle.mr_frame.specs.Ending.{found_targets}
unfoldable pub use Rattle.mr_frame.specs.Ending.{freed_each, left_by, returned}
pub use Rattle.mr_frame.specs.Fits.{AreCalling, FitFrames, FitsFrame, FitsOnward, FitsStack, IsCalling, IsLook, IsSafePlan}
pub use Rattle.mr_frame.specs.Frames.{at_block, behind_stmt, EndsThread, Frame, GoesOn, Look, Onward, scene_in, Stack, with_storage, with_top}
pub use Rattle.mr_frame.specs.Inside.{InProgram, is_address, StmtIn, TermIn, ValueAt}
pub use Rattle.mr_frame.specs.Kept.{below_of, frame_of, IsReady, look_of, onward_of, stack_of}
pub use Rattle.mr_frame.specs.Operations.{do_at, do_due, done_stack, DueDo, finish, Operands, OperandsFit, PlaceFits, result_place, result_type, store_result}
unfoldable pub use Rattle.mr_frame.specs.Operations.{next_do}
pub use Rattle.mr_frame.specs.Sites.{AtDo, AtStatement, AtTerminator, broken_at, broken_in_head, Due, due_at, due_term, has_storage, kept_locals, NoDo, none_broken, Site, site_in, site_of_frame, site_of_frames}
unfoldable pub use Rattle.mr_frame.specs.Sites.{due_of, site_of}
pub use Rattle.mr_frame.specs.Standing.{CanRenew, due_in, Holds, IsAt, IsDue, StandsAt}
pub use Rattle.mr_frame.specs.Steps.{dead, live, live_at, next, plain, plan_at, plan_due, statement, terminator}
unfoldable pub use Rattle.mr_frame.specs.Steps.{frame_plan}
pub use Rattle.mr_frame.specs.Switches.{first_case, number_as, switched}
