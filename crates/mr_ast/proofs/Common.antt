-- The names that most proofs of this crate cite, passed on from one place. Declares nothing.
pub use Rattle.std.proofs.Common.{◌+◌, ◌++◌, ◌<◌, [], ap, arith, Bool, bytes_eq, codes, decimal, false, fold, get_or, if◌then◌else◌, inl, inr, length, List, map, None, refl, slice_get, Some, subst, suc, sym, take, true, true≢false, zero, ℕ, ◌∙◌, ◌∷◌, ◌≡◌, ◌≢◌}
pub use Rattle.std.specs.List.{flat_map, list_any}
pub use Rattle.mr_ast.specs.CanonTypes.{int_word, num_words}
unfoldable pub use Rattle.mr_ast.specs.CanonTypes.{words_of_type}
pub use Rattle.mr_ast.specs.CanonValues.{binary_word, NameTexts, text_at, unary_word}
unfoldable pub use Rattle.mr_ast.specs.CanonValues.{words_of_place, words_of_value}
pub use Rattle.mr_ast.specs.Hashed.{case_writes, chunk_writes, field_writes, variant_writes}
pub use Rattle.mr_ast.specs.Words.{Texts}
pub use Rattle.mr_ast.specs.declared.expr.BinaryOp.{BinaryOp}
pub use Rattle.mr_ast.specs.declared.expr.Place.{Place, roll-Place}
pub use Rattle.mr_ast.specs.declared.expr.Place.TheFolds.{fold-roll-Place, fold-roll-Value, map-Place, map-Value}
pub use Rattle.mr_ast.specs.declared.expr.Place.TheOpen.{Place-F, Value-F}
pub use Rattle.mr_ast.specs.declared.expr.UnaryOp.{UnaryOp}
pub use Rattle.mr_ast.specs.declared.expr.Value.{roll-Value, Value}
pub use Rattle.mr_ast.specs.declared.program.FnName.{FnName}
pub use Rattle.mr_ast.specs.declared.program.GlobalName.{GlobalName}
pub use Rattle.mr_ast.specs.declared.program.LocalName.{LocalName}
pub use Rattle.mr_ast.specs.declared.types.IntType.{IntType}
pub use Rattle.mr_ast.specs.declared.types.Num.{Num}
pub use Rattle.mr_ast.specs.declared.types.Tree.{Tree}
pub use Rattle.mr_ast.specs.declared.types.Tree.TheFolds.{fold-roll-Tree}
pub use Rattle.mr_ast.specs.declared.types.Tree.TheOpen.{Tree-F}
pub use Rattle.mr_ast.specs.declared.types.Ty.{roll-Ty, Ty}
pub use Rattle.mr_ast.specs.declared.types.Ty.TheFolds.{fold-roll-Ty, fold-roll-Variant, fold-Variant, map-Ty}
pub use Rattle.mr_ast.specs.declared.types.Ty.TheOpen.{Ty-F}
pub use Rattle.mr_ast.specs.declared.types.Variant.{out-Variant, Variant}
