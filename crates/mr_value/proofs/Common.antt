-- The names that most proofs of this crate cite, passed on from one place. Declares nothing.
pub use Rattle.std.proofs.Common.{◌%◌, ◌&&◌, ◌*◌, ◌+◌, ◌++◌, ◌-◌, ◌/◌, ◌<◌, ◌==◌, [], ◌^◌, ap, append-nil, append_assoc, arith, Bool, drop, false, get_or, IfNone, IfSome, if◌then◌else◌, length, length-append, length-drop, length-take, List, map, nat_le, nat_lt, None, not, Option, option_and_then, option_map, refl, slice_get, Some, subst, suc, sym, take, true, zero, ◌||◌, ℕ, ◌∙◌, ◌∷◌, ◌≡◌, ◌≤◌, ◌⊎◌, ⊎_elim}
pub use Rattle.std.proofs.lemmas.Bool.{and_parts, or_parts}
pub use Rattle.std.proofs.lemmas.Bool.Decides.{nat_tests}
pub use Rattle.std.proofs.lemmas.List.{drop-drop, drop_more, get_or-append_right, get_or-drop, get_or-take, get_or_append_left, get_or_past, length-replicate, take_all, take_more}
pub use Rattle.mr_ast.proofs.TypeInduction.{AllFields, AllVariants, type_induction, TypeCases}
pub use Rattle.mr_ast.specs.Integers.{int_size, is_fitting}
pub use Rattle.mr_ast.specs.Weight.{fields_weight}
unfoldable pub use Rattle.mr_ast.specs.Weight.{weight_of}
pub use Rattle.mr_ast.specs.declared.rule.Rule.TheVariants.{SizeMultiple, TypeAlign, TypeSize}
pub use Rattle.mr_ast.specs.declared.types.IntType.{IntType}
pub use Rattle.mr_ast.specs.declared.types.Num.{Num}
pub use Rattle.mr_ast.specs.declared.types.Tag.{Tag}
pub use Rattle.mr_ast.specs.declared.types.Tree.{Tree}
pub use Rattle.mr_ast.specs.declared.types.Ty.{roll-Ty, Ty}
pub use Rattle.mr_ast.specs.declared.types.Ty.TheFolds.{map-Ty, para-roll-Ty, para-roll-Variant, para-Variant}
pub use Rattle.mr_ast.specs.declared.types.Ty.TheOpen.{Ty-F}
pub use Rattle.mr_ast.specs.declared.types.Variant.{out-Variant, Variant}
pub use Rattle.mr_base.proofs.Comparisons.{below_or, eq_from, le_from, lt_test, not_false, not_true}
pub use Rattle.mr_base.proofs.Options.{followed, mapped, some_is}
pub use Rattle.mr_base.specs.declared.byte.AbstractByte.{AbstractByte}
pub use Rattle.mr_base.specs.declared.byte.AbstractByte.TheVariants.{Init, Uninit}
pub use Rattle.mr_base.specs.declared.byte.AllocId.{AllocId}
pub use Rattle.mr_base.specs.declared.byte.Pointer.{Pointer}
pub use Rattle.mr_layout.proofs.Bounds.{or_else_none, rule_none}
pub use Rattle.mr_layout.proofs.OkTests.{is_ok_of, ok_array, ok_enum, ok_of, ok_tuple, ok_union}
pub use Rattle.mr_layout.proofs.PartFacts.{ChunksInside, FieldsOk, VariantsOk}
pub use Rattle.mr_layout.proofs.PartsOk.{array_part, enum_parts, tuple_parts, union_parts}
pub use Rattle.mr_layout.proofs.SizeLaws.{size_array, size_bool, size_enum, size_fn_ptr, size_int, size_raw, size_ref, size_tuple, size_union}
pub use Rattle.mr_layout.specs.EnumRules.{are_all_tags, are_tags, are_tree_cases, is_some_used, same_num}
unfoldable pub use Rattle.mr_layout.specs.EnumRules.{is_tree}
pub use Rattle.mr_layout.specs.Parts.{are_chunks_ok, are_ok, are_variants_ok}
unfoldable pub use Rattle.mr_layout.specs.Parts.{is_ok}
pub use Rattle.mr_layout.specs.Rules.{is_align, is_chunk_overlapping, is_large, is_overlapping, meets_any, meets_chunk}
pub use Rattle.mr_layout.specs.Sizes.{size_of}
pub use Rattle.mr_layout.specs.TypeOk.{TypeOk}
pub use Rattle.mr_layout.specs.Used.{is_in, is_in_chunk, is_in_part, is_in_tag, is_used_field, is_used_in}
unfoldable pub use Rattle.mr_layout.specs.Used.{is_used, is_used_variant}
pub use Rattle.mr_runs.proofs.RangeLaws.{length-with_range_replaced}
pub use Rattle.mr_runs.specs.Numbers.{with_provenance}
pub use Rattle.mr_runs.specs.Pieces.{bytes_of_pieces, InitPiece, SeenPiece}
pub use Rattle.mr_runs.specs.Ranges.{with_range_replaced}
pub use Rattle.mr_value.specs.Decode.{bool_of, chunks_in, elements_in, is_aligned, is_not_null, Means, pointer_where, read_fields, read_variant, Reader}
unfoldable pub use Rattle.mr_value.specs.Decode.{decoded}
pub use Rattle.mr_value.specs.Discriminants.{bits_of_number, number_of_bits, walk_case}
unfoldable pub use Rattle.mr_value.specs.Discriminants.{walk}
pub use Rattle.mr_value.specs.Encode.{BeginsWith, blank, element_bytes, tag_bytes, with_chunks, with_tags, write_fields, write_variant}
unfoldable pub use Rattle.mr_value.specs.Encode.{encoding_of}
pub use Rattle.mr_value.specs.Faithful.{fields_faithful, is_found, variant_faithful}
unfoldable pub use Rattle.mr_value.specs.Faithful.{is_faithful}
pub use Rattle.mr_value.specs.Numbers.{all_have, Bytes, little_endian, number_of, part, pointer, pointer_bytes, pointer_of}
pub use Rattle.mr_value.specs.Shape.{chunks_size, elements_pass, fields_have_shape, ValueTest, variant_has_shape, variant_passes}
unfoldable pub use Rattle.mr_value.specs.Shape.{has_shape}
pub use Rattle.mr_value.specs.declared.val.Val.{out-Val, Val}
