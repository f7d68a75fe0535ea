-- What a type without a broken rule keeps, for each kind that has parts or numbers of its own.
use Rattle.mr_layout.proofs.Common.{◌≡◌, ℕ, ◌*◌, ◌%◌, ◌^◌, ◌≤◌, true, false, List, None, sym, ◌∙◌, not, ◌&&◌, ◌||◌, ◌==◌, and_parts, or_parts, TypeSize, TypeAlign, FieldOutside, SizeMultiple, EnumVariant, EnumTag, EnumTree, IntType, Tree, Ty, Variant, size_of, is_large, is_align, is_past, is_overlapping, is_chunk_past, is_rising, is_chunk_overlapping, are_covered, tuple_rules, array_rules, union_rules, are_variants, are_all_tags, is_tree, enum_rules, TypeOk, broken_rule, first_broken_field, first_broken_variant, eq_from, not_true, not_false}
use Rattle.mr_ast.specs.declared.rule.Rule.TheVariants.{FieldOverlap, UnionChunk}
use Rattle.mr_ast.specs.declared.types.Ty.TheVariants as ty
use Rattle.mr_layout.proofs.PartFacts.{FieldsOk, ChunksInside, VariantsOk}
use Rattle.mr_layout.proofs.Bounds.{or_else_none, rule_none, small_of}
use Rattle.mr_layout.proofs.BrokenLaws.{broken_tuple, broken_array, broken_union, broken_enum}
use Rattle.mr_layout.proofs.PartsOk.{fields_ok, chunks_inside, variants_ok}

-- a size, and an alignment of which it is a multiple
pub record SizeOk (size align : ℕ) : Type 0 where
  pub small : size ≤ 2 ^ 20
  pub power : is_align align ≡ true
  pub whole : size % align ≡ 0

-- a tuple's fields break no rule, lie inside it, and have no byte in common
pub record TupleOk (size align : ℕ) (fields : List (ℕ × Ty)) : Type 0 where
  pub sized : SizeOk size align
  pub parts : FieldsOk size fields
  pub apart : is_overlapping fields ≡ false

tuples : (size align : ℕ) (fields : List (ℕ × Ty)) → first_broken_field fields ≡ None → tuple_rules size align fields ≡ None → TupleOk size align fields
unfolding tuple_rules
tuples size align fields unbroken e =
    let a = rule_none TypeSize (is_large size) _ e in
    let b = rule_none TypeAlign (not (is_align align)) _ a.1 in
    let c = rule_none FieldOutside (is_past size fields) _ b.1 in
    let d = rule_none FieldOverlap (is_overlapping fields) _ c.1 in
    let f = rule_none SizeMultiple (not (size % align == 0)) None d.1 in
    record {
      sized = record { small = small_of size a.0; power = not_false _ b.0; whole = eq_from (size % align) 0 (not_false _ f.0) };
      parts = fields_ok size fields unbroken c.0;
      apart = d.0;
    }

pub tuple_ok : (size align : ℕ) (fields : List (ℕ × Ty)) → TypeOk (ty.Tuple size align fields) → TupleOk size align fields
tuple_ok size align fields ok =
    let a = or_else_none (first_broken_field fields) (tuple_rules size align fields) (sym (broken_tuple size align fields) ∙ ok) in
    tuples size align fields a.0 a.1

-- an array's element breaks no rule, and there are not too many, nor too large ones
pub record ArrayOk (count : ℕ) (elem : Ty) : Type 0 where
  pub part : TypeOk elem
  pub few : count ≤ 2 ^ 20
  pub small : count * size_of elem ≤ 2 ^ 20

arrays : (count : ℕ) (elem : Ty) → TypeOk elem → array_rules count elem ≡ None → ArrayOk count elem
unfolding array_rules
arrays count elem part e =
    let a = or_parts (is_large count) (is_large (count * size_of elem)) (rule_none TypeSize (is_large count || is_large (count * size_of elem)) None e).0 in
    record { part = part; few = small_of count a.0; small = small_of (count * size_of elem) a.1 }

pub array_ok : (count : ℕ) (elem : Ty) → TypeOk (ty.Array count elem) → ArrayOk count elem
array_ok count elem ok =
    let a = or_else_none (broken_rule elem) (array_rules count elem) (sym (broken_array count elem) ∙ ok) in
    arrays count elem a.0 a.1

-- a union's fields break no rule and lie inside it; its chunks lie inside it, rise, have no byte in common, and have each used byte of a field
pub record UnionOk (size align : ℕ) (fields : List (ℕ × Ty)) (chunks : List (ℕ × ℕ)) : Type 0 where
  pub sized : SizeOk size align
  pub parts : FieldsOk size fields
  pub inside : ChunksInside size chunks
  pub rising : is_rising chunks ≡ true
  pub apart : is_chunk_overlapping chunks ≡ false
  pub covered : are_covered fields chunks ≡ true

unions : (size align : ℕ) (fields : List (ℕ × Ty)) (chunks : List (ℕ × ℕ)) → first_broken_field fields ≡ None → union_rules size align fields chunks ≡ None → UnionOk size align fields chunks
unfolding union_rules
unions size align fields chunks unbroken e =
    let a = rule_none TypeSize (is_large size) _ e in
    let b = rule_none TypeAlign (not (is_align align)) _ a.1 in
    let c = rule_none FieldOutside (is_past size fields || is_chunk_past size chunks) _ b.1 in
    let d = rule_none SizeMultiple (not (size % align == 0)) _ c.1 in
    let f = rule_none UnionChunk (not (is_rising chunks && (not (is_chunk_overlapping chunks) && are_covered fields chunks))) None d.1 in
    let past = or_parts (is_past size fields) (is_chunk_past size chunks) c.0 in
    let g = and_parts (is_rising chunks) _ (not_false _ f.0) in
    let h = and_parts (not (is_chunk_overlapping chunks)) (are_covered fields chunks) g.1 in
    record {
      sized = record { small = small_of size a.0; power = not_false _ b.0; whole = eq_from (size % align) 0 (not_false _ d.0) };
      parts = fields_ok size fields unbroken past.0;
      inside = chunks_inside size chunks past.1;
      rising = g.0;
      apart = not_true _ h.0;
      covered = h.1;
    }

pub union_ok : (size align : ℕ) (fields : List (ℕ × Ty)) (chunks : List (ℕ × ℕ)) → TypeOk (ty.Union size align fields chunks) → UnionOk size align fields chunks
union_ok size align fields chunks ok =
    let a = or_else_none (first_broken_field fields) (union_rules size align fields chunks) (sym (broken_union size align fields chunks) ∙ ok) in
    unions size align fields chunks a.0 a.1

-- an enum's variants break no rule and have its size, and its variants, tags and tree pass their tests
pub record EnumOk (size align : ℕ) (disc : IntType) (variants : List Variant) (tree : Tree) : Type 0 where
  pub sized : SizeOk size align
  pub parts : VariantsOk size variants
  pub numbered : are_variants size align disc variants ≡ true
  pub tagged : are_all_tags size variants ≡ true
  pub told : is_tree size variants tree ≡ true

enums : (size align : ℕ) (disc : IntType) (variants : List Variant) (tree : Tree) → first_broken_variant variants ≡ None → enum_rules size align disc variants tree ≡ None → EnumOk size align disc variants tree
unfolding enum_rules
enums size align disc variants tree unbroken e =
    let a = rule_none TypeSize (is_large size) _ e in
    let b = rule_none TypeAlign (not (is_align align)) _ a.1 in
    let c = rule_none SizeMultiple (not (size % align == 0)) _ b.1 in
    let d = rule_none EnumVariant (not (are_variants size align disc variants)) _ c.1 in
    let f = rule_none EnumTag (not (are_all_tags size variants)) _ d.1 in
    let g = rule_none EnumTree (not (is_tree size variants tree)) None f.1 in
    record {
      sized = record { small = small_of size a.0; power = not_false _ b.0; whole = eq_from (size % align) 0 (not_false _ c.0) };
      parts = variants_ok size align disc variants unbroken (not_false _ d.0);
      numbered = not_false _ d.0;
      tagged = not_false _ f.0;
      told = not_false _ g.0;
    }

pub enum_ok : (size align : ℕ) (disc : IntType) (variants : List Variant) (tree : Tree) → TypeOk (ty.Enum size align disc variants tree) → EnumOk size align disc variants tree
enum_ok size align disc variants tree ok =
    let a = or_else_none (first_broken_variant variants) (enum_rules size align disc variants tree) (sym (broken_enum size align disc variants tree) ∙ ok) in
    enums size align disc variants tree a.0 a.1
