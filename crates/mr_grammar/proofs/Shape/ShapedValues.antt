-- The places and values that a row without a broken limit writes are shaped.
use Rattle.mr_grammar.proofs.Common.{◌≡◌, true, ◌∙◌, List, [], ◌∷◌, ℕ, nat_le, Bool, false, AllByRecursion, fold, lt_test, UsesLocal, ValueWord, Part, Definitions, fits_u64, is_shaped_num, Named, is_shaped_value, is_shaped_place, form_of, SpelledPart, Postfix, ByField, ByIndex, ByVariant, with_postfix, postfix_form, place_from, postfixes_form, base_form, deref_form, value_form, global_value_form, tuple_value_form, more_values_form, union_value_form, variant_value_form, addr_of_form, cast_form, transmute_form, binary_form, value_behind, TheValue, ThePlace, TheType, Kind, TheTree, scope_at, named_at, use_local}
use Rattle.mr_ast.specs.declared.expr.Place.{Place}
use Rattle.mr_ast.proofs.ShapedLaws.{shaped_field_place, shaped_index_place, shaped_variant_place, shaped_deref, shaped_local_place, shaped_int, shaped_true, shaped_false, shaped_raw, shaped_fn, shaped_global, shaped_tuple, shaped_union, shaped_variant, shaped_load, shaped_disc, shaped_addr_of, shaped_cast, shaped_transmute, shaped_unary, shaped_binary}
use Rattle.mr_ast.specs.declared.words.ValueWord.TheVariants as value_word
use Rattle.mr_grammar.proofs.Shape.ShapedNames.{ensures_name, ensures_function_use, ensures_global_use}
use Rattle.mr_grammar.proofs.Shape.ShapedNumbers.{both, ensures_limited, ensures_u64, ensures_num, all_pass}
use Rattle.mr_grammar.proofs.Shape.ShapedTypes.{Inner, ShapedAs, ensures_int, ensures_type, ensures_tree}
use Rattle.mr_grammar.proofs.Walk.EnsureLaws.{Ensures, no_parts, ensures_either, ensures_giving, ensures_within, ensures_then, ensures_pair, ensures_before, ensures_all, ensures_cases, ensures_empty, ensures_behind, ensures_part, by_height}

-- a place and what makes another of it
abbrev ShapedPostfix : Named → Postfix → Type 0
ShapedPostfix named (ByField n) = fits_u64 n ≡ true
ShapedPostfix named (ByIndex v) = is_shaped_value named v ≡ true
ShapedPostfix named (ByVariant n) = is_shaped_num n ≡ true

postfix_kept : (named : Named) (p : Place) (x : Postfix) → is_shaped_place named p ≡ true → ShapedPostfix named x → is_shaped_place named (with_postfix p x) ≡ true
postfix_kept named p (ByField n) shaped one = shaped_field_place named p n ∙ both shaped one
postfix_kept named p (ByIndex v) shaped one = shaped_index_place named p v ∙ both shaped one
postfix_kept named p (ByVariant n) shaped one = shaped_variant_place named p n ∙ both shaped one

postfixes_kept : (named : Named) (xs : List Postfix) (p : Place) → is_shaped_place named p ≡ true → AllByRecursion (ShapedPostfix named) xs → is_shaped_place named (fold with_postfix p xs) ≡ true
postfixes_kept named [] p shaped all = shaped
postfixes_kept named (x ∷ xs) p shaped all = postfixes_kept named xs (with_postfix p x) (postfix_kept named p x shaped all.0) all.1

module _ (d : Definitions) (k : ℕ) where
  module _ {height room : ℕ} (inner : Inner height room (scope_at d k) (named_at d k)) where
    ensures_postfix : (j : ℕ) → Ensures height room no_parts (scope_at d k) (postfix_form j) (ShapedPostfix (named_at d k))
    unfolding postfix_form
    ensures_postfix j =
        ensures_either (ensures_giving (ensures_within (inner TheValue)) (λ v p. p))
        (ensures_either (ensures_then (ensures_limited 7 (nat_le 32 j)) ensures_u64 (λ u n p q. q)) (ensures_then (ensures_limited 7 (nat_le 32 j)) ensures_num (λ u n p q. q)))

    ensures_place : (over : Bool) → Ensures height room no_parts (scope_at d k) (place_from over) (ShapedAs (named_at d k) (ThePlace over))
    unfolding place_from postfixes_form base_form deref_form
    ensures_place over = ensures_then {P = ShapedAs (named_at d k) (ThePlace over)} (ensures_either
        (ensures_then (ensures_limited 8 over) (ensures_within (λ lower e. ensures_pair (ensures_before (inner TheValue lower e)) (inner TheType lower e)))
        (λ u parts p q. (p, shaped_deref (named_at d k) parts.0 parts.1 ∙ both q.0 q.1)))
        (ensures_giving (ensures_name d k UsesLocal (λ text n e. use_local d k n text e)) (λ n p. (p.0, shaped_local_place (named_at d k) (record { 0 = n }) ∙ lt_test n (named_at d k).locals p.1))))
        (ensures_all ensures_postfix) (λ p xs shaped all. (shaped.0, postfixes_kept (named_at d k) xs p shaped.1 all))

    ensures_value : Ensures height room no_parts (scope_at d k) value_form (λ v. is_shaped_value (named_at d k) v ≡ true)
    unfolding value_form global_value_form tuple_value_form more_values_form union_value_form variant_value_form addr_of_form cast_form transmute_form binary_form
    ensures_value = ensures_cases (λ w i e. behind i)
      where
        behind : (i : ValueWord) → Ensures height room no_parts (scope_at d k) (value_behind i) (λ v. is_shaped_value (named_at d k) v ≡ true)
        behind (value_word.Int i) = ensures_giving ensures_num (λ n p. shaped_int (named_at d k) i n ∙ p)
        behind value_word.True = ensures_empty (shaped_true (named_at d k))
        behind value_word.False = ensures_empty (shaped_false (named_at d k))
        behind value_word.Raw = ensures_giving ensures_u64 (λ n p. shaped_raw (named_at d k) n ∙ p)
        behind value_word.Fn = ensures_giving (ensures_function_use d k) (λ f p. shaped_fn (named_at d k) f ∙ p)
        behind value_word.Global = ensures_then (ensures_global_use d k) (ensures_behind ensures_u64) (λ g n p q. shaped_global (named_at d k) g n ∙ both p q)
        behind value_word.Tuple =
            ensures_giving (ensures_within (λ lower e. ensures_pair (inner TheType lower e) (ensures_all (λ j. ensures_behind (inner TheValue lower e)))))
            (λ parts p. shaped_tuple (named_at d k) parts.0 parts.1 ∙ both p.0 (all_pass (is_shaped_value (named_at d k)) parts.1 p.1))
        behind value_word.Union =
            ensures_giving (ensures_within (λ lower e. ensures_pair (ensures_before (inner TheType lower e)) (ensures_pair (ensures_before ensures_u64) (inner TheValue lower e))))
            (λ parts p. shaped_union (named_at d k) parts.0 parts.1.0 parts.1.1 ∙ both p.0 (both p.1.0 p.1.1))
        behind value_word.Variant =
            ensures_giving (ensures_within (λ lower e. ensures_pair (ensures_before (inner TheType lower e)) (ensures_pair (ensures_before ensures_num) (inner TheValue lower e))))
            (λ parts p. shaped_variant (named_at d k) parts.0 parts.1.0 parts.1.1 ∙ both p.0 (both p.1.0 p.1.1))
        behind value_word.Load = ensures_giving (ensures_within (inner (ThePlace false))) (λ x p. shaped_load (named_at d k) x ∙ p.1)
        behind value_word.Disc = ensures_giving (ensures_within (inner (ThePlace false))) (λ x p. shaped_disc (named_at d k) x ∙ p.1)
        behind value_word.AddrOf =
            ensures_giving (ensures_within (λ lower e. ensures_pair (ensures_before (inner TheType lower e)) (inner (ThePlace false) lower e))) (λ parts p. shaped_addr_of (named_at d k) parts.0 parts.1 ∙ both p.0 p.1.1)
        behind value_word.Cast =
            ensures_giving (ensures_within (λ lower e. ensures_pair (ensures_before ensures_int) (inner TheValue lower e))) (λ parts p. shaped_cast (named_at d k) parts.0 parts.1 ∙ p.1)
        behind value_word.Transmute =
            ensures_giving (ensures_within (λ lower e. ensures_pair (ensures_before (inner TheType lower e)) (inner TheValue lower e))) (λ parts p. shaped_transmute (named_at d k) parts.0 parts.1 ∙ both p.0 p.1)
        behind (value_word.Unary o) = ensures_giving (ensures_within (inner TheValue)) (λ v p. shaped_unary (named_at d k) o v ∙ p)
        behind (value_word.Binary o) =
            ensures_giving (ensures_within (λ lower e. ensures_pair (ensures_before (inner TheValue lower e)) (inner TheValue lower e))) (λ parts p. shaped_binary (named_at d k) o parts.0 parts.1 ∙ both p.0 p.1)

    ensures_kind : (kind : Kind) → Ensures height room no_parts (scope_at d k) (form_of kind) (ShapedAs (named_at d k) kind)
    ensures_kind TheType = ensures_type height room (named_at d k) inner
    ensures_kind TheTree = ensures_tree height room (named_at d k) inner
    ensures_kind (ThePlace over) = ensures_place over
    ensures_kind TheValue = ensures_value

  -- Every part is shaped, however deep its brackets nest.
  pub parts_shaped : {height room : ℕ} (kind : Kind) → Ensures height room (SpelledPart height) (scope_at d k) (Part kind) (ShapedAs (named_at d k) kind)
  parts_shaped {height} {room} kind = ensures_part {kind = kind} (by_height
      (λ h r. (c : Kind) → Ensures h r no_parts (scope_at d k) (form_of c) (ShapedAs (named_at d k) c))
      (λ h r below. ensures_kind (λ c lower e. ensures_part {kind = c} (below lower e c))) height room kind)
