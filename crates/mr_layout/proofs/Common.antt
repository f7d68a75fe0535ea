-- The names that most proofs of this crate cite, passed on from one place. Declares nothing.
pub use Rattle.std.proofs.Common.{◌%◌, ◌&&◌, ◌*◌, ◌+◌, ◌++◌, ◌-◌, ◌/◌, ◌<◌, ◌==◌, [], ◌^◌, All, ap, arith, Bool, Contains, drop, false, get_or, IfSome, if◌then◌else◌, inl, inr, is_some, length, List, map, max, min, nat_le, nat_lt, None, not, Option, refl, replicate, slice_index, Some, subst, suc, sym, take, true, zero, ◌||◌, ℕ, ◌∙◌, ◌∷◌, ◌≡◌, ◌≤◌, ◌⊎◌, ⊎_elim}
pub use Rattle.std.proofs.Math.Nat.{add-mul-mod_self_right, mod-eq_of_lt, mod-mod_of_dvd}
pub use Rattle.std.proofs.lemmas.Bool.{and_from, and_left, and_parts, and_right, both_ways, cases_lt, or_cases, or_from, or_left, or_parts, or_right}
pub use Rattle.std.proofs.lemmas.Bool.Decides.{nat_tests}
pub use Rattle.std.proofs.lemmas.List.{drop_all, drop_more, get_or-drop, get_or-replicate, get_or-take, get_or_past, length-append, length-drop, length-replicate, length-take, take_all}
pub use Rattle.std.proofs.lemmas.Nat.{mod-mul-add, mod_below}
pub use Rattle.std.proofs.lemmas.Result.{IfOk-weaker}
pub use Rattle.std.specs.List.{flat_map, list_any}
pub use Rattle.mr_ast.proofs.TypeInduction.{AllFields, AllVariants, type_induction, TypeCases}
pub use Rattle.mr_ast.specs.Integers.{int_size, is_fitting}
pub use Rattle.mr_ast.specs.declared.rule.Rule.{Rule}
pub use Rattle.mr_ast.specs.declared.rule.Rule.TheVariants.{EnumTag, EnumTree, EnumVariant, FieldOutside, SizeMultiple, TypeAlign, TypeSize}
pub use Rattle.mr_ast.specs.declared.types.IntType.{IntType}
pub use Rattle.mr_ast.specs.declared.types.IntType.TheVariants.{I128, I16, I32, I64, I8, U128, U16, U32, U64, U8}
pub use Rattle.mr_ast.specs.declared.types.Num.{Num}
pub use Rattle.mr_ast.specs.declared.types.Tag.{Tag}
pub use Rattle.mr_ast.specs.declared.types.Tree.{Tree}
pub use Rattle.mr_ast.specs.declared.types.Ty.{roll-Ty, Ty}
pub use Rattle.mr_ast.specs.declared.types.Ty.TheFolds.{fold-roll-Ty, map-Ty, para-roll-Ty, para-roll-Variant}
pub use Rattle.mr_ast.specs.declared.types.Ty.TheOpen.{Ty-F}
pub use Rattle.mr_ast.specs.declared.types.Variant.{out-Variant, Variant}
pub use Rattle.mr_base.proofs.Comparisons.{eq_from, le_from, le_test, lt_from, lt_test, not_false, not_lt_test, not_true}
pub use Rattle.mr_base.specs.Pairs.{not_empty}
pub use Rattle.mr_layout.specs.Alike.{are_tags_alone, are_tags_fitting, case_key, case_twice, each_case, each_variant, field_range, is_some_tag_used, is_variant_tag_used, number_twice, tag_range, tags_meeting, variant_key}
pub use Rattle.mr_layout.specs.Cached.{Adds, AreTypesOf}
pub use Rattle.mr_layout.specs.EnumRules.{are_all_tags, are_tags, are_tree_cases, are_variants, is_case, is_number_of, is_some_used, meets_tag, same_num}
unfoldable pub use Rattle.mr_layout.specs.EnumRules.{enum_rules, is_tree}
pub use Rattle.mr_layout.specs.Layouts.{AreDefined, held_types, layout_of}
pub use Rattle.mr_layout.specs.Marks.{are_unmarked, every, is_chunk_marked, is_field_marked, is_mark, is_run_marked, is_tag_marked, is_variant_marked}
unfoldable pub use Rattle.mr_layout.specs.Marks.{is_marked}
pub use Rattle.mr_layout.specs.Met.{are_outside, are_rows_met, gaps_from, is_chunk_met, is_field_met, is_in_order, is_in_order_after, is_some_below, is_tag_met, is_variant_met, ranges_past}
unfoldable pub use Rattle.mr_layout.specs.Met.{is_met, is_run_met}
pub use Rattle.mr_layout.specs.Rules.{are_covered, is_align, is_chunk_overlapping, is_chunk_past, is_covered, is_large, is_overlapping, is_past, is_rising, is_rising_after, meets_any, meets_chunk, or_else}
unfoldable pub use Rattle.mr_layout.specs.Rules.{array_rules, tuple_rules, union_rules}
pub use Rattle.mr_layout.specs.Sizes.{align_of, inhabited_step, is_inhabited, size_of, variant_step}
pub use Rattle.mr_layout.specs.Tables.{are_tags_inside, is_first, is_row_mark, is_some_mark, is_some_tag_mark, is_used_row, Marks}
pub use Rattle.mr_layout.specs.TypeOk.{first_broken_field, first_broken_variant, TypeOk}
unfoldable pub use Rattle.mr_layout.specs.TypeOk.{broken_rule}
pub use Rattle.mr_layout.specs.Used.{is_in, is_in_chunk, is_in_part, is_in_tag, is_used_field, is_used_in, Use}
unfoldable pub use Rattle.mr_layout.specs.Used.{is_used, is_used_variant}
pub use Rattle.mr_layout.specs.Written.{types_of, types_of_fields, types_of_values, types_of_variants}
unfoldable pub use Rattle.mr_layout.specs.Written.{parts_of, types_of_place, types_of_value}
