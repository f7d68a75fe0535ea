-- The names that most proofs of this crate cite, passed on from one place. Declares nothing.
pub use Rattle.std.proofs.Common.{◌%◌, ◌&&◌, ◌*◌, ◌*ℤ◌, ◌+◌, ◌++◌, ◌-◌, ◌<◌, ◌==◌, [], ◌^◌, ap, append-nil, append_assoc, ap₂, arith, Bool, cond, drop, Err, false, FitsSigned, get_or, if◌then◌else◌, int_div, int_rem, is_some, length, List, ltb, map, nat_le, nat_lt, neg_ℤ, negsuc, None, not, Ok, Option, pos, pow_pos, refl, Result, rules, slice_get, Some, subst, suc, sym, true, unsigned_abs, zero, ◌||◌, ℕ, ℤ, ◌∙◌, ◌∷◌, ◌≡◌, ◌≤◌}
pub use Rattle.std.proofs.lemmas.Bool.{and_parts}
pub use Rattle.std.proofs.lemmas.Int.{ints}
pub use Rattle.std.proofs.lemmas.List.{drop_all, drop_more, length-replicate}
pub use Rattle.std.proofs.lemmas.Option.{same_Some}
pub use Rattle.std.proofs.lemmas.Result.{err_from_is_err_and}
pub use Rattle.std.specs.Option.{option_map}
pub use Rattle.std.specs.Ordering.{int_eq}
pub use Rattle.mr_ast.proofs.TypeInduction.{type_made}
pub use Rattle.mr_ast.specs.Integers.{bits_of, int_size, is_fitting, is_signed, least_of}
pub use Rattle.mr_ast.specs.ShapedValues.{Named}
unfoldable pub use Rattle.mr_ast.specs.ShapedValues.{is_shaped_place, is_shaped_value}
pub use Rattle.mr_ast.specs.declared.expr.BinaryOp.{BinaryOp}
pub use Rattle.mr_ast.specs.declared.expr.Place.{Place, roll-Place}
pub use Rattle.mr_ast.specs.declared.expr.UnaryOp.{UnaryOp}
pub use Rattle.mr_ast.specs.declared.expr.Value.{roll-Value, Value}
pub use Rattle.mr_ast.specs.declared.program.FnName.{FnName}
pub use Rattle.mr_ast.specs.declared.program.GlobalName.{GlobalName}
pub use Rattle.mr_ast.specs.declared.program.Local.{Local}
pub use Rattle.mr_ast.specs.declared.program.LocalName.{LocalName}
pub use Rattle.mr_ast.specs.declared.types.IntType.{IntType}
pub use Rattle.mr_ast.specs.declared.types.IntType.TheVariants.{I128, I16, I32, I64, I8, U128, U16, U32, U64, U8}
pub use Rattle.mr_ast.specs.declared.types.Num.{Num}
pub use Rattle.mr_ast.specs.declared.types.Tree.{Tree}
pub use Rattle.mr_ast.specs.declared.types.Ty.{out-Ty, roll-Ty, Ty}
pub use Rattle.mr_ast.specs.declared.types.Ty.TheOpen.{Ty-F}
pub use Rattle.mr_ast.specs.declared.types.Variant.{Variant}
pub use Rattle.mr_base.proofs.Comparisons.{eq_from, lt_from, lt_test}
pub use Rattle.mr_base.proofs.ScriptRuns.{on_same, run_bind}
pub use Rattle.mr_base.specs.Script.{◌>>=◌, Ask, Broken, Done, IllFormed, on, Outcome, Refused, run, Undefined, Went}
pub use Rattle.mr_base.specs.Stops.{over, plainly, reached_by, speaks, Stop, stop_with}
pub use Rattle.mr_base.specs.declared.byte.AllocId.{AllocId}
pub use Rattle.mr_base.specs.declared.byte.Pointer.{Pointer}
pub use Rattle.mr_base.specs.declared.reached.Reached.{Reached}
pub use Rattle.mr_base.specs.declared.reached.Reaching.TheVariants.{Loads, Moves, Refers}
pub use Rattle.mr_base.specs.declared.reason.Reason.{Reason}
pub use Rattle.mr_base.specs.declared.reason.Reason.TheVariants.{DanglingReference, DivOverflow, InvalidDiscriminant, InvalidValue, Overflow, ShiftAmount, TransmuteInvalid, ZeroDivisor}
pub use Rattle.mr_layout.proofs.WellFormed.{enum_ok, union_ok}
pub use Rattle.mr_layout.specs.EnumRules.{same_num}
pub use Rattle.mr_layout.specs.Sizes.{align_of, size_of}
pub use Rattle.mr_layout.specs.TypeOk.{TypeOk}
pub use Rattle.mr_mem.specs.Memory.{checked, Memory, read}
pub use Rattle.mr_runs.specs.Pieces.{bytes_of_pieces}
pub use Rattle.mr_runs.specs.Ranges.{with_range_replaced}
pub use Rattle.mr_typing.proofs.KindLaws.{bool_is, integer_is, raw_is}
pub use Rattle.mr_typing.proofs.SameTypeLaws.{same_type_equal}
unfoldable pub use Rattle.mr_typing.specs.Broken.{broken_in_place, broken_in_value}
pub use Rattle.mr_typing.specs.Known.{ty_of}
pub use Rattle.mr_typing.specs.Operands.{is_bool, is_int, is_raw, is_scalar_number, is_type, is_union_layer}
pub use Rattle.mr_typing.specs.Types.{chained, discriminant_in, discriminant_type, element_type, field_in, field_type, integer_in, integer_of, overflow_type, result_type, variant_among, variant_in, variant_type}
unfoldable pub use Rattle.mr_typing.specs.Types.{type_of_place, type_of_value}
pub use Rattle.mr_value.proofs.EncodeLength.{length-encoding_of}
pub use Rattle.mr_value.proofs.ShapeLaws.{has_bool, has_int, has_raw, has_tuple, shape_bool, shape_int, shape_raw}
pub use Rattle.mr_value.specs.Decode.{chunks_in}
unfoldable pub use Rattle.mr_value.specs.Decode.{decoded}
pub use Rattle.mr_value.specs.Discriminants.{bits_of_number, number_of_bits}
pub use Rattle.mr_value.specs.Encode.{blank}
unfoldable pub use Rattle.mr_value.specs.Encode.{encoding_of}
pub use Rattle.mr_value.specs.Numbers.{Bytes}
unfoldable pub use Rattle.mr_value.specs.Shape.{has_shape}
pub use Rattle.mr_value.specs.declared.val.Val.{out-Val, Val}
pub use Rattle.mr_value.specs.declared.val.Val.TheOpen.{Val-F}
pub use Rattle.mr_eval.specs.Answers.{Extends, FieldShaped, Gives, same, seen, surround_of, value_in}
pub use Rattle.mr_eval.specs.Arith.{arith_of, if_quotient_defined, overflowing_of}
pub use Rattle.mr_eval.specs.Environment.{env_surround, Leaves, ShapedAs}
pub use Rattle.mr_eval.specs.Evaluated.{chosen_number, transmuted_to}
unfoldable pub use Rattle.mr_eval.specs.Evaluated.{each_valued, found_number, meant_by, placed, read_number, read_typed, referred_to, valued}
pub use Rattle.mr_eval.specs.Evaluation.{as_variant, bare, discriminant_at, discriminant_layer, element_at, elements_in, loaded, offset_in, stored, Surround, transmuted, union_layer, union_of, values_script}
unfoldable pub use Rattle.mr_eval.specs.Evaluation.{place_script, value_script}
pub use Rattle.mr_eval.specs.Moves.{behind, moved}
pub use Rattle.mr_eval.specs.Numbers.{bits_for, value_of}
pub use Rattle.mr_eval.specs.Operators.{binary_of, cast_value, index_of_value, like, or_ill_formed, or_reason, pointer_of_value, unary_of}
pub use Rattle.mr_eval.specs.Reads.{accessing, answered, Check, named, Read, reading, ReadScript, Refer, seeing, Seen, touching}
pub use Rattle.mr_eval.specs.Shift.{shift_of}
pub use Rattle.mr_eval.specs.Sound.{any_result, Comes, Good, IsSafe, SoundPlace, SoundValue, SoundValues, Stands}
pub use Rattle.mr_eval.specs.Typed.{case_search, element_targets, meaningless, meant, numbered, or_undefined, referred, referring, Targets, targets_of_fields, targets_of_variant}
unfoldable pub use Rattle.mr_eval.specs.Typed.{loading, searched, targets_of}
pub use Rattle.mr_eval.specs.declared.arithmetic.ArithOp.{ArithOp}
pub use Rattle.mr_eval.specs.declared.halt.Halt.{Halt}
pub use Rattle.mr_eval.specs.declared.shifts.ShiftOp.{ShiftOp}
