-- Places and values are printed as they are written.
use Rattle.mr_grammar.proofs.Common.{ℕ, ◌≡◌, Some, None, refl, codes, ◌∷◌, [], ◌++◌, ◌∙◌, append_assoc, List, sym, ap, Bool, false, fold, decimal, flat_map, nat_le, append-nil, UsesLocal, ValueWord, int_word, num_words, NameTexts, words_of_value, words_of_place, text_at, Cases, Part, Definitions, form_of, SpelledPart, judged_value, Postfix, ByField, ByIndex, ByVariant, with_postfix, postfix_form, place_from, postfixes_form, base_form, deref_form, value_form, global_value_form, tuple_value_form, more_values_form, union_value_form, variant_value_form, addr_of_form, cast_form, transmute_form, binary_form, value_behind, Texts, TheValue, TheType, ThePlace, Kind, TheTree, scope_at}
use Rattle.mr_ast.specs.declared.expr.BinaryOp.{BinaryOp}
use Rattle.mr_ast.specs.declared.expr.Place.{Place}
use Rattle.mr_ast.specs.declared.expr.UnaryOp.{UnaryOp}
use Rattle.mr_ast.specs.declared.types.IntType.{IntType}
use Rattle.mr_ast.specs.CanonValues.{unary_word, binary_word}
use Rattle.mr_ast.specs.Words.{unary_words, binary_words}
use Rattle.mr_ast.proofs.CanonValueLaws.{words_field, words_index, words_variant_place, words_deref, words_local, words_int, words_true, words_false, words_raw, words_fn, words_global, words_tuple, words_union, words_variant, words_load, words_disc, words_addr_of, words_cast, words_transmute, words_unary, words_binary}
use Rattle.mr_ast.proofs.WordLaws.{unary_word_found, binary_word_found}
use Rattle.mr_ast.specs.declared.expr.BinaryOp.TheVariants as binary
use Rattle.mr_ast.specs.declared.expr.UnaryOp.TheVariants as unary
use Rattle.mr_ast.specs.declared.types.IntType.TheVariants as int
use Rattle.mr_ast.specs.declared.words.ValueWord.TheVariants as value_word
use Rattle.mr_grammar.proofs.Canon.CanonForms.{Canon, canon_either, canon_giving, canon_within, canon_then, canon_limited, canon_pair, canon_behind, canon_many, Stands, canon_word, canon_empty, canon_before, canon_part}
use Rattle.mr_grammar.proofs.Canon.CanonTypes.{Inner, int_fixed, words_as, canon_type, canon_tree}
use Rattle.mr_grammar.proofs.Canon.CanonWords.{Known, canon_u64, canon_num, canon_name, canon_function, canon_global, canon_int}
use Rattle.mr_grammar.proofs.Tokens.TokenRows.{table_passes, is_fixed}
use Rattle.mr_grammar.proofs.Walk.EnsureLaws.{no_parts, ensures_cases, Ensures, by_height}
use Rattle.mr_grammar.proofs.Walk.HeightLaws.{SomePart}

int_begins : (i : IntType) (k : ℕ) → judged_value (record { text = int_word i; place = k }) ≡ Some (value_word.Int i, None)
unfolding judged_value
int_begins int.U8 k = refl
int_begins _ k = refl

unary_begins : (o : UnaryOp) (k : ℕ) → judged_value (record { text = unary_word o; place = k }) ≡ Some (value_word.Unary o, None)
unfolding judged_value
unary_begins unary.Neg k = refl
unary_begins unary.Not k = refl

binary_begins : (o : BinaryOp) (k : ℕ) → judged_value (record { text = binary_word o; place = k }) ≡ Some (value_word.Binary o, None)
unfolding judged_value
binary_begins binary.Add k = refl
binary_begins _ k = refl

-- the words of a place are those of the place without its postfixes, and those of the postfixes
abbrev postfix_words : NameTexts → Postfix → Texts
postfix_words names (ByField n) = codes "." ∷ decimal n ∷ []
postfix_words names (ByIndex v) = codes "[" ∷ words_of_value names v ++ codes "]" ∷ []
postfix_words names (ByVariant n) = codes "@" ∷ num_words n

one_postfix : (names : NameTexts) (p : Place) (x : Postfix) → words_of_place names (with_postfix p x) ≡ words_of_place names p ++ postfix_words names x
one_postfix names p (ByField n) = words_field names p n
one_postfix names p (ByIndex v) = words_index names p v ∙ simp append_assoc
one_postfix names p (ByVariant n) = words_variant_place names p n

all_postfixes : (names : NameTexts) (p : Place) (xs : List Postfix)
    → words_of_place names (fold with_postfix p xs) ≡ words_of_place names p ++ flat_map (postfix_words names) xs
all_postfixes names p [] = sym (append-nil (words_of_place names p))
all_postfixes names p (x ∷ xs) =
    all_postfixes names (with_postfix p x) xs ∙ ap (λ front. front ++ flat_map (postfix_words names) xs) (one_postfix names p x)
    ∙ append_assoc (words_of_place names p) (postfix_words names x) (flat_map (postfix_words names) xs)

module _ {d : Definitions} {k : ℕ} (names : NameTexts) (known : Known d k names) where
  module _ {height room : ℕ} (inner : Inner height room (scope_at d k) names) where
    canon_postfix : (j : ℕ) → Canon height room no_parts no_parts (scope_at d k) [] (postfix_form j) (postfix_words names)
    unfolding postfix_form
    canon_postfix j = canon_either (canon_giving (canon_within (inner TheValue)) (λ v. refl))
        (canon_either (canon_then (canon_limited 7 (nat_le 32 j) (codes ".") refl) canon_u64 (λ u n. refl))
        (canon_then (canon_limited 7 (nat_le 32 j) (codes "@") refl) canon_num (λ u n. refl)))

    canon_place : (over : Bool) → Canon height room no_parts no_parts (scope_at d k) [] (place_from over) (words_of_place names)
    unfolding place_from postfixes_form base_form deref_form
    canon_place over = canon_then {row_a = words_of_place names} (canon_either
        (canon_then (canon_limited 8 over (codes "deref") refl)
        (canon_within (λ lower e. canon_pair (canon_behind (inner TheValue lower e) (codes ",") refl) (inner TheType lower e)))
        (λ u parts. words_deref names parts.0 parts.1 ∙ simp append_assoc))
        (canon_giving (canon_name over UsesLocal (text_at names.locals) known.locals) (λ n. words_local names (record { 0 = n }))))
        (canon_many canon_postfix) (all_postfixes names)

    canon_value : Canon height room no_parts no_parts (scope_at d k) [] value_form (words_of_value names)
    unfolding value_form judged_value global_value_form tuple_value_form more_values_form union_value_form variant_value_form addr_of_form cast_form transmute_form binary_form
    canon_value = record { law = ensures_cases (λ w i e. behind i) }
      where
        behind : (i : ValueWord)
            → Ensures height room no_parts (scope_at d k) (value_behind i) (λ v. Stands room no_parts (scope_at d k) [] (Cases (λ s. judged_value) value_behind) v (words_of_value names v))
        behind (value_word.Int i) = canon_word (int_word i) (value_word.Int i) (int_fixed i) (int_begins i) (canon_giving canon_num (words_int names i))
        behind value_word.True = canon_word (codes "true") value_word.True refl (λ j. refl) (canon_empty (words_true names))
        behind value_word.False = canon_word (codes "false") value_word.False refl (λ j. refl) (canon_empty (words_false names))
        behind value_word.Raw = canon_word (codes "raw") value_word.Raw refl (λ j. refl) (canon_giving canon_u64 (words_raw names))
        behind value_word.Fn = canon_word (codes "fn") value_word.Fn refl (λ j. refl) (canon_giving (canon_function names known) (words_fn names))
        behind value_word.Global = canon_word (codes "global") value_word.Global refl (λ j. refl)
            (canon_then (canon_global names known) (canon_before (codes "+") refl canon_u64) (words_global names))
        behind value_word.Tuple = canon_word (codes "tuple") value_word.Tuple refl (λ j. refl)
            (canon_giving (canon_within (λ lower e. canon_pair (inner TheType lower e) (canon_many (λ i. canon_before (codes ",") refl (inner TheValue lower e)))))
            (λ parts. words_tuple names parts.0 parts.1))
        behind value_word.Union = canon_word (codes "union") value_word.Union refl (λ j. refl)
            (canon_giving (canon_within (λ lower e. canon_pair (canon_behind (inner TheType lower e) (codes ",") refl)
            (canon_pair (canon_behind canon_u64 (codes ",") refl) (inner TheValue lower e))))
            (λ parts. words_union names parts.0 parts.1.0 parts.1.1 ∙ simp append_assoc))
        behind value_word.Variant = canon_word (codes "variant") value_word.Variant refl (λ j. refl)
            (canon_giving (canon_within (λ lower e. canon_pair (canon_behind (inner TheType lower e) (codes ",") refl)
            (canon_pair (canon_behind canon_num (codes ",") refl) (inner TheValue lower e))))
            (λ parts. words_variant names parts.0 parts.1.0 parts.1.1 ∙ simp append_assoc))
        behind value_word.Load = canon_word (codes "load") value_word.Load refl (λ j. refl)
            (canon_giving (canon_within (inner (ThePlace false))) (words_load names))
        behind value_word.Disc = canon_word (codes "disc") value_word.Disc refl (λ j. refl)
            (canon_giving (canon_within (inner (ThePlace false))) (words_disc names))
        behind value_word.AddrOf = canon_word (codes "addrof") value_word.AddrOf refl (λ j. refl)
            (canon_giving (canon_within (λ lower e. canon_pair (canon_behind (inner TheType lower e) (codes ",") refl) (inner (ThePlace false) lower e)))
            (λ parts. words_addr_of names parts.0 parts.1 ∙ simp append_assoc))
        behind value_word.Cast = canon_word (codes "cast") value_word.Cast refl (λ j. refl)
            (canon_giving (canon_within (λ lower e. canon_pair (canon_behind canon_int (codes ",") refl) (inner TheValue lower e)))
            (λ parts. words_cast names parts.0 parts.1))
        behind value_word.Transmute = canon_word (codes "transmute") value_word.Transmute refl (λ j. refl)
            (canon_giving (canon_within (λ lower e. canon_pair (canon_behind (inner TheType lower e) (codes ",") refl) (inner TheValue lower e)))
            (λ parts. words_transmute names parts.0 parts.1 ∙ simp append_assoc))
        behind (value_word.Unary o) =
            canon_word (unary_word o) (value_word.Unary o) (table_passes is_fixed unary_words (unary_word o) o refl (unary_word_found o)) (unary_begins o)
            (canon_giving (canon_within (inner TheValue)) (words_unary names o))
        behind (value_word.Binary o) =
            canon_word (binary_word o) (value_word.Binary o) (table_passes is_fixed binary_words (binary_word o) o refl (binary_word_found o)) (binary_begins o)
            (canon_giving (canon_within (λ lower e. canon_pair (canon_behind (inner TheValue lower e) (codes ",") refl) (inner TheValue lower e)))
            (λ parts. words_binary names o parts.0 parts.1 ∙ simp append_assoc))

    canon_kind : (kind : Kind) → Canon height room no_parts no_parts (scope_at d k) [] (form_of kind) (words_as names kind)
    canon_kind TheType = canon_type height room names inner
    canon_kind TheTree = canon_tree height room names inner
    canon_kind (ThePlace over) = canon_place over
    canon_kind TheValue = canon_value

  -- a part of a kind, however deep its brackets nest
  pub canon_parts : {height room : ℕ} (kind : Kind) → Canon height room (SpelledPart height) SomePart (scope_at d k) [] (Part kind) (words_as names kind)
  canon_parts {height} {room} kind = canon_part {kind = kind} (by_height
      (λ h r. (c : Kind) → Canon h r no_parts no_parts (scope_at d k) [] (form_of c) (words_as names c))
      (λ h r below. canon_kind (λ c lower e. canon_part {kind = c} (below lower e c))) height room kind)
