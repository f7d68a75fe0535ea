-- The trees and types that a row without a broken limit writes are shaped.
use Rattle.mr_grammar.proofs.Common.{ℕ, ◌≡◌, true, false, ◌∙◌, [], TreeWord, TypeWord, Part, Scope, fits_u64, Named, is_shaped_place, is_shaped_value, shape_form, chunk_form, tag_form, field_form, variant_form, tags_form, case_form, tree_form, branch_form, cases_form, tree_behind, type_form, ref_form, tuple_type_form, fields_form, array_form, union_type_form, chunks_form, enum_form, variants_form, type_behind, int_form, Kind, Meaning, TheType, TheTree, ThePlace, TheValue}
use Rattle.mr_ast.specs.ShapedTypes.{is_shaped_chunk, is_shaped_tag, is_shaped_type, is_shaped_tree, is_shaped_field, is_shaped_variant, is_shaped_case}
use Rattle.mr_ast.proofs.ShapedLaws.{shaped_known, shaped_invalid, shaped_branch, shaped_int_type, shaped_bool, shaped_raw_type, shaped_fn_ptr, shaped_tuple_type, shaped_ref, shaped_array, shaped_union_type, shaped_enum}
use Rattle.mr_ast.specs.declared.words.TreeWord.TheVariants as tree_word
use Rattle.mr_ast.specs.declared.words.TypeWord.TheVariants as type_word
use Rattle.mr_grammar.proofs.Shape.ShapedNumbers.{ensures_u64, both, ensures_num, all_pass}
use Rattle.mr_grammar.proofs.Walk.EnsureLaws.{Parts, Ensures, ensures_token, ensures_then, ensures_behind, ensures_also, ensures_pair, ensures_before, EnsuresInside, ensures_listed, ensures_separated, ensures_cases, ensures_giving, ensures_empty, ensures_within, ensures_all, ensures_either, ensures_word}

module _ {height room : ℕ} {part : Parts} {scope : Scope} where
  pub ensures_int : Ensures height room part scope int_form (λ i. Unit {0})
  ensures_int = ensures_token (λ w i e. tt)

  pub ensures_shape : Ensures height room part scope shape_form (λ s. (fits_u64 s.size ≡ true) × (fits_u64 s.align ≡ true))
  unfolding shape_form
  ensures_shape = ensures_then (ensures_behind ensures_u64) (ensures_behind ensures_u64) (λ size align p q. (p, q))

  pub ensures_chunk : Ensures height room part scope chunk_form (λ c. is_shaped_chunk c ≡ true)
  unfolding chunk_form
  ensures_chunk = ensures_also (ensures_pair ensures_u64 ensures_u64) (λ c p. both p.0 p.1)

  pub ensures_tag : Ensures height room part scope tag_form (λ t. is_shaped_tag t ≡ true)
  unfolding tag_form
  ensures_tag = ensures_then (ensures_before ensures_u64) (ensures_pair (ensures_before ensures_int) ensures_num) (λ at rest p q. both p q.1)

-- A thing of each kind is shaped, and a place is not one too many.
abbrev pub ShapedAs : Named → (kind : Kind) → Meaning kind → Type 0
ShapedAs named TheType t = is_shaped_type t ≡ true
ShapedAs named TheTree t = is_shaped_tree t ≡ true
ShapedAs named (ThePlace over) p = (over ≡ false) × (is_shaped_place named p ≡ true)
ShapedAs named TheValue v = is_shaped_value named v ≡ true

-- the parts that stand in brackets are shaped
abbrev pub Inner : ℕ → ℕ → Scope → Named → Type 0
Inner height room scope named = (kind : Kind) → EnsuresInside height room scope (Part kind) (ShapedAs named kind)

module _ (height room : ℕ) {scope : Scope} (named : Named) (inner : Inner height room scope named) where
  ensures_field : EnsuresInside height room scope field_form (λ f. is_shaped_field f ≡ true)
  unfolding field_form
  ensures_field lower e = ensures_also (ensures_pair (ensures_before ensures_u64) (inner TheType lower e)) (λ f p. both p.0 p.1)

  ensures_variant : EnsuresInside height room scope variant_form (λ v. is_shaped_variant v ≡ true)
  unfolding variant_form tags_form
  ensures_variant lower e =
      ensures_then (ensures_pair (ensures_before ensures_num) (inner TheType lower e)) (ensures_behind (ensures_listed (λ deeper d. ensures_separated ensures_tag)))
      (λ head tags p q. both p.0 (both p.1 (all_pass is_shaped_tag tags q)))

  ensures_case : EnsuresInside height room scope case_form (λ c. is_shaped_case c ≡ true)
  unfolding case_form
  ensures_case lower e = ensures_also (ensures_pair (ensures_before ensures_num) (ensures_before (inner TheTree lower e))) (λ c p. both p.0 p.1)

  pub ensures_tree : {part : Parts} → Ensures height room part scope tree_form (λ t. is_shaped_tree t ≡ true)
  unfolding tree_form branch_form cases_form
  ensures_tree {part} = ensures_cases (λ w i e. behind i)
    where
      behind : (i : TreeWord) → Ensures height room part scope (tree_behind i) (λ t. is_shaped_tree t ≡ true)
      behind tree_word.Known = ensures_giving ensures_num (λ n p. shaped_known n ∙ p)
      behind tree_word.Invalid = ensures_empty shaped_invalid
      behind tree_word.Branch =
          ensures_then (ensures_pair ensures_u64 ensures_int)
          (ensures_within (λ lower e. ensures_pair (ensures_all (λ k. ensures_case lower e)) (ensures_behind (ensures_behind (inner TheTree lower e)))))
          (λ head cases p q. shaped_branch head.0 head.1 cases.0 cases.1 ∙ both p.0 (both (all_pass is_shaped_case cases.0 q.0) q.1))

  pub ensures_type : {part : Parts} → Ensures height room part scope type_form (λ t. is_shaped_type t ≡ true)
  unfolding type_form ref_form tuple_type_form fields_form array_form union_type_form chunks_form enum_form variants_form
  ensures_type {part} = ensures_cases (λ w i e. behind i)
    where
      behind : (i : TypeWord) → Ensures height room part scope (type_behind i) (λ t. is_shaped_type t ≡ true)
      behind (type_word.Int i) = ensures_empty (shaped_int_type i)
      behind type_word.Bool = ensures_empty shaped_bool
      behind type_word.Raw = ensures_empty shaped_raw_type
      behind type_word.FnPtr = ensures_empty shaped_fn_ptr
      behind type_word.Unit = ensures_empty (shaped_tuple_type 0 1 [])
      behind type_word.Ref =
          ensures_then (ensures_pair ensures_u64 ensures_u64) (ensures_either {Q = λ never. Unit {0}} (ensures_giving ensures_word (λ u p. tt)) (ensures_empty tt))
          (λ numbers never p q. shaped_ref numbers.0 numbers.1 never ∙ both p.0 p.1)
      behind type_word.Tuple =
          ensures_then ensures_shape (ensures_listed (λ lower e. ensures_separated (ensures_field lower e)))
          (λ shape fields p q. shaped_tuple_type shape.size shape.align fields ∙ both p.0 (both p.1 (all_pass is_shaped_field fields q)))
      behind type_word.Array =
          ensures_giving (ensures_within (λ lower e. ensures_pair (ensures_before ensures_u64) (inner TheType lower e)))
          (λ parts p. shaped_array parts.0 parts.1 ∙ both p.0 p.1)
      behind type_word.Union =
          ensures_then ensures_shape
          (ensures_pair (ensures_listed (λ lower e. ensures_separated (ensures_field lower e))) (ensures_behind (ensures_listed (λ lower e. ensures_separated ensures_chunk))))
          (λ shape parts p q. shaped_union_type shape.size shape.align parts.0 parts.1
          ∙ both p.0 (both p.1 (both (all_pass is_shaped_field parts.0 q.0) (all_pass is_shaped_chunk parts.1 q.1))))
      behind type_word.Enum =
          ensures_then (ensures_pair ensures_shape (ensures_behind ensures_int))
          (ensures_pair (ensures_listed (λ lower e. ensures_separated (ensures_variant lower e))) ensures_tree)
          (λ head parts p q. shaped_enum head.0.size head.0.align head.1 parts.0 parts.1
          ∙ both p.0.0 (both p.0.1 (both (all_pass is_shaped_variant parts.0 q.0) q.1)))
