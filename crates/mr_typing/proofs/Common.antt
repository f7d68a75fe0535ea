-- The names that most proofs of this crate cite, passed on from one place. Declares nothing.
pub use Rattle.std.proofs.Common.{◌&&◌, ◌*◌, ◌++◌, ◌==◌, [], ◌^◌, All, ap, append_assoc, ap₂, arith, Bool, drop, false, if◌then◌else◌, is_some, IsTrue, length, List, map, nat_lt, None, not, Ok, Option, refl, Result, rules, slice_get, Some, subst, suc, sym, tests, true, ◌||◌, ℕ, ◌↔◌, ◌∙◌, ◌∷◌, ◌≡◌}
pub use Rattle.std.proofs.lemmas.Bool.{and_parts}
pub use Rattle.std.proofs.lemmas.Bool.Decides.{nat_tests, same_from_decides}
pub use Rattle.std.specs.List.{flat_map, list_all}
pub use Rattle.std.specs.Option.{option_map}
pub use Rattle.mr_ast.proofs.TypeInduction.{type_made}
pub use Rattle.mr_ast.specs.Integers.{int_size, is_fitting}
pub use Rattle.mr_ast.specs.Shaped.{is_block, is_optional_block, is_optional_place, is_shaped_stmt, is_shaped_target, is_shaped_term, named_in}
pub use Rattle.mr_ast.specs.ShapedTypes.{fits_u64, is_shaped_num}
unfoldable pub use Rattle.mr_ast.specs.ShapedTypes.{is_shaped_type}
pub use Rattle.mr_ast.specs.ShapedValues.{Named}
unfoldable pub use Rattle.mr_ast.specs.ShapedValues.{is_shaped_place, is_shaped_value}
pub use Rattle.mr_ast.specs.declared.expr.BinaryOp.{BinaryOp}
pub use Rattle.mr_ast.specs.declared.expr.Place.{Place, roll-Place}
pub use Rattle.mr_ast.specs.declared.expr.Place.TheFolds.{fold-roll-Place, fold-roll-Value, map-Place, map-Value}
pub use Rattle.mr_ast.specs.declared.expr.Place.TheOpen.{Place-F, Value-F}
pub use Rattle.mr_ast.specs.declared.expr.UnaryOp.{UnaryOp}
pub use Rattle.mr_ast.specs.declared.expr.Value.{roll-Value, Value}
pub use Rattle.mr_ast.specs.declared.program.FnName.{FnName}
pub use Rattle.mr_ast.specs.declared.program.Function.{Function}
pub use Rattle.mr_ast.specs.declared.program.GlobalName.{GlobalName}
pub use Rattle.mr_ast.specs.declared.program.Local.{Local}
pub use Rattle.mr_ast.specs.declared.program.LocalName.{LocalName}
pub use Rattle.mr_ast.specs.declared.program.Stmt.{Stmt}
pub use Rattle.mr_ast.specs.declared.rule.Rule.{Rule}
pub use Rattle.mr_ast.specs.declared.types.IntType.{IntType}
pub use Rattle.mr_ast.specs.declared.types.IntType.TheVariants.{U64}
pub use Rattle.mr_ast.specs.declared.types.Num.{Num}
pub use Rattle.mr_ast.specs.declared.types.Ty.{out-Ty, roll-Ty, Ty}
pub use Rattle.mr_ast.specs.declared.types.Ty.TheOpen.{Ty-F}
pub use Rattle.mr_ast.specs.declared.types.Variant.{Variant}
pub use Rattle.mr_layout.specs.TypeOk.{TypeOk}
unfoldable pub use Rattle.mr_layout.specs.TypeOk.{broken_rule}
pub use Rattle.mr_typing.specs.Blocks.{broken_in_parts, broken_in_result, broken_in_stmt, broken_in_term, broken_in_values, fits_switch, is_allowed, is_kept, where_result_typed}
pub use Rattle.mr_typing.specs.Broken.{is_in_global, of_type, rule, Rules, Surroundings, surroundings, where_all_typed, where_both_typed, where_typed}
unfoldable pub use Rattle.mr_typing.specs.Broken.{broken_in_place, broken_in_value}
pub use Rattle.mr_typing.specs.Judging.{◌>>=◌, judged_values, kept, sound_type, there}
unfoldable pub use Rattle.mr_typing.specs.Judging.{judged_place, judged_value}
pub use Rattle.mr_typing.specs.Known.{ty_of}
pub use Rattle.mr_typing.specs.Operands.{fits_binary, fits_parts, fits_unary, fits_union, fits_variant, is_bool, is_bool_layer, is_fn_ptr, is_int, is_pointer, is_raw, is_ref, is_scalar_number, same_size}
unfoldable pub use Rattle.mr_typing.specs.SameTypes.{same_type}
pub use Rattle.mr_typing.specs.Types.{among, chained, discriminant_type, element_type, field_type, integer_in, integer_of, overflow_type, result_type, variant_type}
unfoldable pub use Rattle.mr_typing.specs.Types.{type_of_place, type_of_value}
