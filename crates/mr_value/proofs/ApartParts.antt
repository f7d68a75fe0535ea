-- The fields of a tuple and the chunks of a union that break no rule have no byte in common.
use Rattle.mr_value.proofs.Common.{◌≡◌, ℕ, ◌%◌, false, List, None, sym, ◌∙◌, not, ◌&&◌, ◌||◌, ◌==◌, and_parts, TypeSize, TypeAlign, SizeMultiple, Ty, is_large, is_align, is_overlapping, is_chunk_overlapping, TypeOk, or_else_none, rule_none, not_false, not_true}
use Rattle.mr_ast.specs.declared.rule.Rule.TheVariants.{FieldOutside, FieldOverlap, UnionChunk}
use Rattle.mr_layout.specs.Rules.{is_past, tuple_rules, is_chunk_past, is_rising, are_covered, union_rules}
use Rattle.mr_layout.specs.TypeOk.{first_broken_field}
use Rattle.mr_layout.proofs.BrokenLaws.{broken_tuple, broken_union}
use Rattle.mr_ast.specs.declared.types.Ty.TheVariants as ty

apart_fields : (size align : ℕ) (fields : List (ℕ × Ty)) → tuple_rules size align fields ≡ None → is_overlapping fields ≡ false
unfolding tuple_rules
apart_fields size align fields e =
    let a = rule_none TypeSize (is_large size) _ e in
    let b = rule_none TypeAlign (not (is_align align)) _ a.1 in
    let c = rule_none FieldOutside (is_past size fields) _ b.1 in
    (rule_none FieldOverlap (is_overlapping fields) _ c.1).0

pub tuple_apart : (size align : ℕ) (fields : List (ℕ × Ty)) → TypeOk (ty.Tuple size align fields) → is_overlapping fields ≡ false
tuple_apart size align fields ok =
    apart_fields size align fields (or_else_none (first_broken_field fields) (tuple_rules size align fields) (sym (broken_tuple size align fields) ∙ ok)).1

apart_chunks : (size align : ℕ) (fields : List (ℕ × Ty)) (chunks : List (ℕ × ℕ)) → union_rules size align fields chunks ≡ None → is_chunk_overlapping chunks ≡ false
unfolding union_rules
apart_chunks size align fields chunks e =
    let a = rule_none TypeSize (is_large size) _ e in
    let b = rule_none TypeAlign (not (is_align align)) _ a.1 in
    let c = rule_none FieldOutside (is_past size fields || is_chunk_past size chunks) _ b.1 in
    let d = rule_none SizeMultiple (not (size % align == 0)) _ c.1 in
    let f = rule_none UnionChunk (not (is_rising chunks && (not (is_chunk_overlapping chunks) && are_covered fields chunks))) None d.1 in
    let g = and_parts (is_rising chunks) _ (not_false _ f.0) in
    not_true _ (and_parts (not (is_chunk_overlapping chunks)) (are_covered fields chunks) g.1).0

pub union_apart : (size align : ℕ) (fields : List (ℕ × Ty)) (chunks : List (ℕ × ℕ)) → TypeOk (ty.Union size align fields chunks) → is_chunk_overlapping chunks ≡ false
union_apart size align fields chunks ok =
    apart_chunks size align fields chunks (or_else_none (first_broken_field fields) (union_rules size align fields chunks) (sym (broken_union size align fields chunks) ∙ ok)).1
