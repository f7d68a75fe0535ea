-- The names that most proofs of this crate cite, passed on from one place. Declares nothing.
pub use Rattle.std.proofs.Common.{◌&&◌, ◌+◌, ◌++◌, ◌<◌, [], ◌^◌, All, ap, append_assoc, arith, Bool, drop, Err, false, get_or, length, List, map, nat_le, None, Ok, Option, refl, Result, slice_get, Some, subst, suc, sym, take, true, zero, ℕ, ◌∙◌, ◌∷◌, ◌≡◌, ◌≤◌}
pub use Rattle.std.proofs.lemmas.List.{drop_more}
pub use Rattle.std.proofs.lemmas.Result.{err_from_is_err_and}
pub use Rattle.mr_ast.specs.declared.expr.Place.{Place}
pub use Rattle.mr_ast.specs.declared.expr.Value.{Value}
pub use Rattle.mr_ast.specs.declared.program.Block.{Block}
pub use Rattle.mr_ast.specs.declared.program.BlockName.{BlockName}
pub use Rattle.mr_ast.specs.declared.program.LocalName.{LocalName}
pub use Rattle.mr_ast.specs.declared.rule.Rule.{Rule}
pub use Rattle.mr_ast.specs.declared.types.Num.{Num}
pub use Rattle.mr_ast.specs.declared.types.Ty.{Ty}
pub use Rattle.mr_typing.specs.Broken.{sizes_of, Surroundings}
pub use Rattle.mr_typing.specs.Judging.{◌>>=◌, judged_values, kept, sound_type, there}
unfoldable pub use Rattle.mr_typing.specs.Judging.{judged_place, judged_value}
pub use Rattle.mr_typing.specs.JudgingBlocks.{Judged, judged_stmt}
pub use Rattle.mr_typing.specs.Known.{ty_of}
pub use Rattle.mr_typing.specs.Operands.{is_int, is_scalar_number, match_element}
pub use Rattle.mr_typing.specs.Types.{chained, element_type, field_type, integer_of, variant_type}
unfoldable pub use Rattle.mr_typing.specs.Types.{type_of_place}
pub use Rattle.mr_wf.specs.Gives.{Gives, GivesWhereTyped, Stops, surroundings_of, Walks}
pub use Rattle.mr_wf.specs.JudgingPrograms.{each_walked, IsShort, judged_global, judged_items, placed, ◌then◌, Walked, walked_block, walked_function, walked_global, walked_local, walked_stmt}
pub use Rattle.mr_wf.specs.Listed.{AlikeValue, AlikeValues, AreClasses, AreListed, HasType, IsWhole}
