-- Trees and types are printed as they are written.
use Rattle.mr_grammar.proofs.Common.{ℕ, ◌≡◌, Some, ap, Option, None, true, refl, List, length, [], ◌==◌, ◌&&◌, arith, codes, append_assoc, map, Bool, if◌then◌else◌, ◌∷◌, ◌++◌, subst, sym, false, ◌∙◌, and_parts, nat_tests, nil_from_length, Curly, TreeWord, TypeWord, int_word, NameTexts, words_of_place, words_of_value, Part, Cases, Scope, type_word_of, shape_form, chunk_form, tag_form, case_form, field_form, variant_form, tags_form, tree_form, judged_tree, branch_form, cases_form, tree_behind, type_form, judged_type, ref_form, tuple_type_form, fields_form, array_form, union_type_form, chunks_form, enum_form, variants_form, type_behind, Texts, looked_up, int_words, Kind, Meaning, TheType, TheTree, ThePlace, TheValue, listed, separated, fine, int_word_found}
use Rattle.mr_ast.specs.declared.types.IntType.{IntType}
use Rattle.mr_ast.specs.declared.types.Ty.{Ty}
use Rattle.mr_ast.specs.CanonTypes.{words_of_type, words_of_tree, is_unit, shape_words, chunk_words, tag_words, case_words, field_words, variant_words, braced}
use Rattle.mr_ast.specs.TypeGrammar.{Shape}
use Rattle.mr_ast.specs.Words.{type_words}
use Rattle.mr_ast.proofs.CanonTypeLaws.{words_known, words_invalid, words_branch, words_int_type, words_bool, words_raw_type, words_fn_ptr, words_tuple_type, words_ref, words_array, words_union_type, words_enum}
use Rattle.mr_ast.specs.declared.types.Ty.TheVariants as ty
use Rattle.mr_ast.specs.declared.words.TreeWord.TheVariants as tree_word
use Rattle.mr_ast.specs.declared.words.TypeWord.TheVariants as type_word
use Rattle.mr_grammar.proofs.Canon.CanonForms.{CanonInside, Canon, canon_then, canon_before, canon_behind, canon_pair, canon_listed, Stands, canon_word, canon_giving, canon_empty, canon_within, canon_many, stands_first, stands_empty, stands_then, canon_either, canon_text}
use Rattle.mr_grammar.proofs.Canon.CanonWords.{canon_u64, canon_int, canon_num}
use Rattle.mr_grammar.proofs.Tokens.TokenRows.{is_fixed, table_passes, fixed_token}
use Rattle.mr_grammar.proofs.Walk.EnsureLaws.{Parts, ensures_cases, Ensures, ensures_then}

-- the words of a part of each kind
abbrev pub words_as : NameTexts → (kind : Kind) → Meaning kind → Texts
words_as names TheType = words_of_type
words_as names TheTree = words_of_tree
words_as names (ThePlace over) = words_of_place names
words_as names TheValue = words_of_value names

-- the parts that stand in brackets are printed as they are written
abbrev pub Inner : ℕ → ℕ → Scope → NameTexts → Type 0
Inner height room scope names = (kind : Kind) → CanonInside height room scope (Part kind) (words_as names kind)

int_begins : (i : IntType) → type_word_of (int_word i) ≡ Some (type_word.Int i)
int_begins i =
    ap (λ found. elim found as (λ _. Option TypeWord) [ Some j ↦ Some (type_word.Int j) | None ↦ looked_up type_words (int_word i) ]) (int_word_found i)

pub int_fixed : (i : IntType) → is_fixed (int_word i) ≡ true
int_fixed i = table_passes is_fixed int_words (int_word i) i refl (int_word_found i)

-- a type with a word of its own
unit_is : (size align : ℕ) (fields : List (ℕ × Ty)) → is_unit size align (length fields) ≡ true → ty.Tuple size align fields ≡ ty.Tuple 0 1 []
unit_is size align fields is =
    let (s, rest) = and_parts (size == 0) (align == 1 && length fields == 0) is in
    let (a, none) = and_parts (align == 1) (length fields == 0) rest in
    let zero_size : size ≡ 0 = grind (arith, nat_tests, s) in
    let one_align : align ≡ 1 = grind (arith, nat_tests, a) in
    let no_field : fields ≡ [] = nil_from_length fields (grind (arith, nat_tests, none)) in
    cc

module _ {height room : ℕ} {part mine : Parts} {scope : Scope} where
  canon_shape : Canon height room part mine scope [] shape_form (λ s. shape_words s.size s.align)
  unfolding shape_form
  canon_shape = canon_then (canon_before (codes "size") refl canon_u64) (canon_before (codes "align") refl canon_u64) (λ size align. refl)

  canon_chunk : Canon height room part mine scope [] chunk_form chunk_words
  unfolding chunk_form
  canon_chunk = canon_then canon_u64 canon_u64 (λ at len. refl)

  canon_tag : Canon height room part mine scope [] tag_form tag_words
  unfolding tag_form
  canon_tag = canon_then (canon_behind canon_u64 (codes ":") refl) (canon_pair (canon_behind canon_int (codes "=") refl) canon_num) (λ at rest. refl)

module _ (height room : ℕ) {scope : Scope} (names : NameTexts) (inner : Inner height room scope names) where
  -- what stands in the brackets of a tree, or a type
  canon_case : CanonInside height room scope case_form case_words
  unfolding case_form
  canon_case lower e =
      canon_then (canon_behind canon_num (codes "=>") refl) (canon_behind (inner TheTree lower e) (codes ",") refl) (λ n t. simp append_assoc)

  canon_field : CanonInside height room scope field_form field_words
  unfolding field_form
  canon_field lower e = canon_then (canon_behind canon_u64 (codes ":") refl) (inner TheType lower e) (λ at t. refl)

  canon_variant : CanonInside height room scope variant_form variant_words
  unfolding variant_form tags_form
  canon_variant lower e =
      canon_then (canon_pair (canon_behind canon_num (codes ":") refl) (inner TheType lower e))
      (canon_before (codes "tag") refl (canon_listed (λ deeper d. canon_tag))) (λ head tags. simp append_assoc)

  module _ {part mine : Parts} where
    pub canon_tree : Canon height room part mine scope [] tree_form words_of_tree
    unfolding tree_form judged_tree branch_form cases_form
    canon_tree = record { law = ensures_cases (λ w i e. behind i) }
      where
        behind : (i : TreeWord) → Ensures height room part scope (tree_behind i) (λ t. Stands room mine scope [] (Cases (λ s. judged_tree) tree_behind) t (words_of_tree t))
        behind tree_word.Known = canon_word (codes "known") tree_word.Known refl (λ k. refl) (canon_giving canon_num words_known)
        behind tree_word.Invalid = canon_word (codes "invalid") tree_word.Invalid refl (λ k. refl) (canon_empty words_invalid)
        behind tree_word.Branch = canon_word (codes "branch") tree_word.Branch refl (λ k. refl)
            (canon_then (canon_pair canon_u64 canon_int)
            (canon_within (λ lower e. canon_pair (canon_many (λ k. canon_case lower e))
            (canon_before (codes "_") refl (canon_before (codes "=>") refl (inner TheTree lower e)))))
            (λ head cases. words_branch head.0 head.1 cases.0 cases.1))

    pub canon_type : Canon height room part mine scope [] type_form words_of_type
    unfolding type_form judged_type ref_form tuple_type_form fields_form array_form union_type_form chunks_form enum_form variants_form
    canon_type = record { law = ensures_cases (λ w i e. behind i) }
      where
        fields : Canon height room part mine scope [] (listed Curly (separated field_form)) (λ fs. braced (map field_words fs))
        fields = canon_listed canon_field

        tuple : (shape : Shape) (fs : List (ℕ × Ty)) → Stands room mine scope [] shape_form shape (shape_words shape.size shape.align)
            → Stands room mine scope [] (listed Curly (separated field_form)) fs (braced (map field_words fs)) → (b : Bool) → is_unit shape.size shape.align (length fs) ≡ b
            → Stands room mine scope [] (Cases (λ s. judged_type) type_behind) (ty.Tuple shape.size shape.align fs)
            (if b then codes "unit" ∷ [] else codes "tuple" ∷ shape_words shape.size shape.align ++ braced (map field_words fs))
        tuple shape fs p q true is =
            subst (λ t. Stands room mine scope [] (Cases (λ s. judged_type) type_behind) t (codes "unit" ∷ [])) (sym (unit_is shape.size shape.align fs is))
            (stands_first {text = codes "unit"} type_word.Unit (fixed_token _ refl) (λ k. refl) (stands_empty refl))
        tuple shape fs p q false is = stands_first {text = codes "tuple"} type_word.Tuple (fixed_token _ refl) (λ k. refl) (stands_then p q refl)

        behind : (i : TypeWord) → Ensures height room part scope (type_behind i) (λ t. Stands room mine scope [] (Cases (λ s. judged_type) type_behind) t (words_of_type t))
        behind (type_word.Int i) = canon_word (int_word i) (type_word.Int i) (int_fixed i) (λ k. ap fine (int_begins i)) (canon_empty (words_int_type i))
        behind type_word.Bool = canon_word (codes "bool") type_word.Bool refl (λ k. refl) (canon_empty words_bool)
        behind type_word.Raw = canon_word (codes "raw") type_word.Raw refl (λ k. refl) (canon_empty words_raw_type)
        behind type_word.FnPtr = canon_word (codes "fnptr") type_word.FnPtr refl (λ k. refl) (canon_empty words_fn_ptr)
        behind type_word.Unit = canon_word (codes "unit") type_word.Unit refl (λ k. refl) (canon_empty (words_tuple_type 0 1 []))
        behind type_word.Ref = canon_word (codes "ref") type_word.Ref refl (λ k. refl)
            (canon_then (canon_pair canon_u64 canon_u64)
            (canon_either {row = λ never. if never then codes "never" ∷ [] else []} (canon_giving (canon_text (codes "never") refl) (λ u. refl)) (canon_empty refl))
            (λ numbers never. words_ref numbers.0 numbers.1 never))
        behind type_word.Tuple = ensures_then canon_shape.law fields.law
            (λ shape fs p q. rw words_tuple_type (tuple shape fs p q (is_unit shape.size shape.align (length fs)) refl))
        behind type_word.Array = canon_word (codes "array") type_word.Array refl (λ k. refl)
            (canon_giving (canon_within (λ lower e. canon_pair (canon_behind canon_u64 (codes ",") refl) (inner TheType lower e)))
            (λ parts. words_array parts.0 parts.1))
        behind type_word.Union = canon_word (codes "union") type_word.Union refl (λ k. refl)
            (canon_then canon_shape (canon_pair fields (canon_before (codes "chunks") refl (canon_listed (λ lower e. canon_chunk))))
            (λ shape parts. words_union_type shape.size shape.align parts.0 parts.1 ∙ simp append_assoc))
        behind type_word.Enum = canon_word (codes "enum") type_word.Enum refl (λ k. refl)
            (canon_then (canon_pair canon_shape (canon_before (codes "disc") refl canon_int)) (canon_pair (canon_listed canon_variant) canon_tree)
            (λ head parts. words_enum head.0.size head.0.align head.1 parts.0 parts.1 ∙ simp append_assoc))
