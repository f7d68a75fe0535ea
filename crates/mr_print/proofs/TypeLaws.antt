-- What is written of types, step by step.
use Rattle.mr_print.proofs.Common.{◌≡◌, ℕ, List, [], ◌∷◌, ◌++◌, length, map, ap, ◌∙◌, codes, decimal, int_word, words_of_type, field_words, variant_words, with_word, with_words}
use Rattle.std.proofs.Common.{true, false}
use Rattle.std.specs.Prelude.{if◌then◌else◌}
use Rattle.mr_ast.specs.declared.types.IntType.{IntType}
use Rattle.mr_ast.specs.declared.types.Tree.{Tree}
use Rattle.mr_ast.specs.declared.types.Ty.{Ty}
use Rattle.mr_ast.specs.declared.types.Variant.{Variant}
use Rattle.mr_ast.specs.CanonTypes.{braced, shape_words, is_unit, words_of_tree}
use Rattle.mr_ast.proofs.CanonTypeLaws.{words_known, words_invalid, words_branch, words_int_type, words_bool, words_raw_type, words_fn_ptr, words_ref, words_tuple_type, words_array, words_union_type, words_enum}
use Rattle.mr_ast.specs.declared.types.Ty.TheVariants as ty
use Rattle.mr_print.proofs.AppendLaws.{word_laws}

-- the tuple with a word of its own, and any other
pub words_unit : (size align : ℕ) (fields : List (ℕ × Ty)) → is_unit size align (length fields) ≡ true → words_of_type (ty.Tuple size align fields) ≡ codes "unit" ∷ []
words_unit size align fields is =
    words_tuple_type size align fields
    ∙ ap (λ b. if b then codes "unit" ∷ [] else codes "tuple" ∷ shape_words size align ++ braced (map field_words fields)) is

pub words_other_tuple : (size align : ℕ) (fields : List (ℕ × Ty)) → is_unit size align (length fields) ≡ false
    → words_of_type (ty.Tuple size align fields) ≡ codes "tuple" ∷ shape_words size align ++ braced (map field_words fields)
words_other_tuple size align fields is =
    words_tuple_type size align fields
    ∙ ap (λ b. if b then codes "unit" ∷ [] else codes "tuple" ∷ shape_words size align ++ braced (map field_words fields)) is

pub ruleset tree_laws = (word_laws, words_known, words_invalid, words_branch)

-- types of one word
pub ruleset scalar_laws = (word_laws, words_int_type, words_bool, words_raw_type, words_fn_ptr)

pub ruleset ref_laws = (word_laws, words_ref)

pub ruleset tuple_laws = (word_laws, words_unit, words_other_tuple)

pub ruleset union_laws = (word_laws, words_union_type)

-- what is written of an array and of an enum, piece by piece
pub written_array : (old : List ℕ) (count : ℕ) (elem : Ty) → with_words old (words_of_type (ty.Array count elem))
    ≡ with_word (with_words (with_word (with_word (with_word (with_word old (codes "array")) (codes "(")) (decimal count)) (codes ",")) (words_of_type elem)) (codes ")")
written_array old count elem = rw words_array (simp word_laws)

pub written_enum : (old : List ℕ) (size align : ℕ) (disc : IntType) (variants : List Variant) (tree : Tree)
    → with_words old (words_of_type (ty.Enum size align disc variants tree))
    ≡ with_words (with_words (with_word (with_word (with_words (with_word old (codes "enum")) (shape_words size align)) (codes "disc")) (int_word disc)) (braced (map variant_words variants))) (words_of_tree tree)
written_enum old size align disc variants tree = rw words_enum (simp word_laws)
