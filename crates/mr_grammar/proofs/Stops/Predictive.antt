-- The grammar can be read from left to right, a word at a time: the next word tells each choice.
use Rattle.mr_grammar.proofs.Common.{codes, refl, ap, ℕ, ◌≡◌, true, not, false, inl, inr, Bool, nat_le, Curly, Square, UsesLocal, TreeWord, TypeWord, ValueWord, Part, Word, Empty, Within, Then, Either, Scope, form_of, fields_form, field_form, chunks_form, chunk_form, tags_form, tag_form, variants_form, variant_form, tree_form, branch_form, cases_form, case_form, tree_behind, type_form, ref_form, tuple_type_form, array_form, union_type_form, enum_form, shape_form, type_behind, postfix_form, begins_postfix, ByIndex, ByField, ByVariant, place_from, postfixes_form, base_form, deref_form, value_form, global_value_form, tuple_value_form, more_values_form, union_value_form, variant_value_form, addr_of_form, cast_form, transmute_form, binary_form, value_behind, is_number, is_name, listed, u64_form, ◌◂◌, ◌▪◌, TheType, ◌▸◌, is_word, num_form, TheTree, other_than, giving, word, Meaning, TheValue, limited_word, name_form, Kind, ThePlace}
use Rattle.mr_ast.specs.declared.expr.Place.TheVariants as place
use Rattle.mr_ast.specs.declared.words.TreeWord.TheVariants as tree_word
use Rattle.mr_ast.specs.declared.words.TypeWord.TheVariants as type_word
use Rattle.mr_ast.specs.declared.words.ValueWord.TheVariants as value_word
use Rattle.mr_grammar.proofs.Stops.PartLaws.{IsTold, part_begins, part_stops}
use Rattle.mr_grammar.proofs.Stops.PieceLaws.{told_list, u64_begins, only_first, told_num, begins_num, told_behind, num_begins, behind_begins, other_word, word_begins, giving_begins, limited_begins, name_begins}
use Rattle.mr_grammar.proofs.Walk.Conditions.{Begins, Stops}

-- types, and what stands in them
told_fields : IsTold (listed Curly fields_form)
unfolding fields_form field_form is_number
told_fields =
    told_list Curly (u64_form ◂ codes ":" ▪ Part TheType) is_number (assumption) refl (λ w b. u64_begins w (only_first (only_first b))) refl (λ w other. (tt, other))

told_chunks : IsTold (listed Curly chunks_form)
unfolding chunks_form chunk_form is_number
told_chunks = told_list Curly (u64_form ▪ u64_form) is_number (assumption) refl (λ w b. u64_begins w (only_first b)) refl (λ w other. (tt, λ i. tt))

told_tags : IsTold (listed Curly tags_form)
unfolding tags_form is_number
told_tags = told_list Curly tag_form is_number (unfold tag_form in assumption told_num) (unfold tag_form in refl)
    (λ w b. unfold tag_form in u64_begins w (only_first (only_first b))) refl (λ w other. unfold tag_form in assumption)

told_variants : IsTold (listed Curly variants_form)
unfolding variants_form is_number
told_variants = told_list Curly variant_form begins_num
    (unfold variant_form in (assumption told_num, told_behind (codes "tag") (listed Curly tags_form) told_tags, λ w b. (tt, untagged w b))) (unfold variant_form in refl)
    (λ w b. unfold variant_form in num_begins w (only_first (only_first (only_first b)))) refl (λ w other. unfold variant_form in assumption)
  where
    untagged : (w : Word) → Begins part_begins (codes "tag" ▸ listed Curly tags_form) w → part_stops TheType w
    untagged w b = ap (is_word (codes "never")) (behind_begins (codes "tag") (listed Curly tags_form) w b)

told_tree : IsTold tree_form
unfolding tree_form branch_form cases_form case_form is_number
told_tree = behind
  where
    case_begins : (k : ℕ) (w : Word) → Begins part_begins (num_form ◂ codes "=>" ▪ Part TheTree ◂ codes ",") w → other_than (codes "_") w.text ≡ true
    case_begins k w b = ap not (other_word begins_num (codes "_") w.text refl (num_begins w (only_first (only_first b))))

    other : (w : Word) → Begins part_begins (codes "_" ▸ codes "=>" ▸ Part TheTree) w → Stops part_stops cases_form w
    other w b = unfold cases_form case_form in (rw (behind_begins (codes "_") (codes "=>" ▸ Part TheTree) w b) refl, assumption)

    behind : (i : TreeWord) → IsTold (tree_behind i)
    behind tree_word.Known = assumption told_num
    behind _ = assumption (told_num, case_begins, other)

told_type : IsTold type_form
unfolding type_form ref_form tuple_type_form array_form union_type_form enum_form shape_form
told_type = behind
  where
    never : (w : Word) → Begins part_begins (giving (λ u. true) (word (codes "never"))) w → is_word (codes "never") w.text ≡ true
    never w b = rw (word_begins (codes "never") w (giving_begins (λ u. true) (word (codes "never")) w b)) refl

    none : (w : Word) → Begins {S = Scope} {M = Meaning} part_begins (Empty false) w → is_word (codes "never") w.text ≡ false
    none w b = absurd b

    behind : (i : TypeWord) → IsTold (type_behind i)
    behind type_word.Array = (tt, (assumption, λ w e. (tt, ap (is_word (codes "never")) e)), λ w b. tt)
    behind type_word.Enum = assumption (told_variants, told_tree)
    behind _ = assumption (never, none, told_fields, told_chunks)

-- places
postfix_begins : (k : ℕ) (w : Word) → Begins part_begins (postfix_form k) w → begins_postfix w.text ≡ true
unfolding postfix_form
postfix_begins k w (inl b) = rw (giving_begins (λ v. ByIndex v) (Within (nat_le 32 k) Square (Part TheValue)) w b) refl
postfix_begins k w (inr (inl b)) = rw (limited_begins 7 (nat_le 32 k) (codes ".") w (only_first b)) refl
postfix_begins k w (inr (inr b)) = rw (limited_begins 7 (nat_le 32 k) (codes "@") w (only_first b)) refl

told_postfix : (k : ℕ) → IsTold (postfix_form k)
unfolding postfix_form
told_postfix k = (
  assumption,
  (assumption, assumption told_num, refl, (λ w b. rw (dot w b) refl), λ w b. rw (at w b) refl),
  refl,
  (λ w b. rw (giving_begins (λ v. ByIndex v) (Within (nat_le 32 k) Square (Part TheValue)) w b) refl),
  λ w b. other w b,
)
  where
    dot : (w : Word) → Begins part_begins (Then (λ u n. ByField n) (limited_word 7 (nat_le 32 k) (codes ".")) u64_form) w → w.text ≡ codes "."
    dot w b = limited_begins 7 (nat_le 32 k) (codes ".") w (only_first b)

    at : (w : Word) → Begins part_begins (Then (λ u n. ByVariant n) (limited_word 7 (nat_le 32 k) (codes "@")) num_form) w → w.text ≡ codes "@"
    at w b = limited_begins 7 (nat_le 32 k) (codes "@") w (only_first b)

    other : (w : Word) → Begins part_begins (Either (is_word (codes ".")) (Then (λ u n. ByField n) (limited_word 7 (nat_le 32 k) (codes ".")) u64_form)
        (Then (λ u n. ByVariant n) (limited_word 7 (nat_le 32 k) (codes "@")) num_form)) w → is_word (codes "[") w.text ≡ false
    other w (inl b) = rw (dot w b) refl
    other w (inr b) = rw (at w b) refl

told_place : (over : Bool) → IsTold (place_from over)
unfolding place_from postfixes_form base_form deref_form is_name
told_place over = (
  (
    (assumption, (assumption, λ w e. (tt, ap (is_word (codes "never")) e)), λ w b. assumption),
    assumption,
    refl,
    (λ w b. rw (limited_begins 8 over (codes "deref") w (only_first b)) refl),
    λ w b. other_word is_name (codes "deref") w.text refl
        (name_begins over UsesLocal w (giving_begins (λ n. place.Local (record { 0 = n })) (name_form over UsesLocal) w b)),
  ),
  (told_postfix, (λ k. unfold postfix_form in refl), postfix_begins, λ j k w b. unfold postfix_form in assumption),
  λ w b. assumption,
)

-- values
told_value : IsTold value_form
unfolding value_form global_value_form tuple_value_form more_values_form union_value_form variant_value_form addr_of_form cast_form transmute_form binary_form
told_value = behind
  where
    never : (w : Word) → Begins part_begins (word (codes ",")) w → is_word (codes "never") w.text ≡ false
    never w b = ap (is_word (codes "never")) (word_begins (codes ",") w b)

    at_end : (w : Word) → w.text ≡ codes ")" → begins_postfix w.text ≡ false
    at_end w e = ap begins_postfix e

    more : (k : ℕ) (w : Word) → Begins part_begins (codes "," ▸ Part TheValue) w → is_word (codes ",") w.text ≡ true
    more k w b = rw (behind_begins (codes ",") (Part TheValue) w b) refl

    behind : (i : ValueWord) → IsTold (value_behind i)
    behind value_word.Tuple = (
      tt,
      (
        (
          tt,
          (assumption, (λ k. refl), more, assumption),
          λ w b. ap (is_word (codes "never")) (behind_begins (codes ",") (Part TheValue) w b.1),
        ),
        λ w e. (ap (is_word (codes "never")) e, (ap (is_word (codes ",")) e, assumption)),
      ),
      λ w b. tt,
    )
    behind value_word.AddrOf = (tt, (assumption never, λ w e. (tt, ap begins_postfix e)), λ w b. tt)
    behind _ = assumption (told_num, never, at_end)

-- Each kind of part can be read a word at a time.
pub told_part : (kind : Kind) → IsTold (form_of kind)
told_part TheType = told_type
told_part TheTree = told_tree
told_part (ThePlace over) = told_place over
told_part TheValue = told_value

-- A part ends in front of the words that say so.
pub ended_part : (kind : Kind) (w : Word) → part_stops kind w → Stops part_stops (form_of kind) w
unfolding type_form ref_form tuple_type_form array_form union_type_form enum_form shape_form tree_form branch_form value_form global_value_form tuple_value_form union_value_form variant_value_form addr_of_form cast_form transmute_form binary_form place_from postfixes_form postfix_form base_form deref_form
ended_part TheType w other = type
  where
    tree : (i : TreeWord) → Stops part_stops (tree_behind i) w
    tree tree_word.Known = assumption
    tree _ = assumption

    type : (i : TypeWord) → Stops part_stops (type_behind i) w
    type type_word.Enum = assumption tree
    type _ = assumption other
ended_part TheTree w other = tree
  where
    tree : (i : TreeWord) → Stops part_stops (tree_behind i) w
    tree tree_word.Known = assumption
    tree _ = assumption
ended_part (ThePlace over) w other = assumption
ended_part TheValue w other = value
  where
    value : (i : ValueWord) → Stops part_stops (value_behind i) w
    value value_word.True = tt
    value _ = assumption
