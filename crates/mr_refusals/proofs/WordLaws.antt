-- The words that are tried are those of the language.
use Rattle.std.proofs.Common.{◌≡◌, ℕ, Bool, true, false, if◌then◌else◌, List, [], ◌∷◌, ◌++◌, refl, ap}
use Rattle.std.specs.Prelude.{bytes_eq, codes, flat_map}
use Rattle.std.specs.List.{list_all, list_any}
use Rattle.mr_ast.specs.Words.{binary_words, int_words, intrinsic_words, is_name, kind_words, stmt_words, term_words}
use Rattle.mr_ast.specs.Words.{Texts, texts_of, tree_words, type_words, unary_words, value_words}
use Rattle.mr_refusals.specs.Going.{fixed_words, going_words, goes, keywords, word_told, words_told}

pub all_named : list_all is_name keywords ≡ true
unfolding is_name
all_named = refl

pub none_named : list_any is_name fixed_words ≡ false
unfolding is_name
none_named = refl

pub all_known : list_all (λ w. list_any (bytes_eq w) (keywords ++ fixed_words))
    (texts_of int_words ++ texts_of type_words ++ texts_of tree_words ++ texts_of unary_words
    ++ texts_of binary_words ++ texts_of value_words ++ texts_of stmt_words ++ texts_of term_words
    ++ texts_of kind_words ++ texts_of intrinsic_words) ≡ true
all_known = refl

-- what is told of each word is what is told of those that go
pub going_told : (front : List ℕ) (line : ℕ) (words : Texts)
    → flat_map (word_told front line) words ≡ words_told front line words
going_told front line [] = refl
going_told front line (word ∷ words) = go (goes front line word) (going_told front line words)
  where
    go : (b : Bool) → flat_map (word_told front line) words ≡ words_told front line words
        → (if b then codes " " ++ word else []) ++ flat_map (word_told front line) words
        ≡ flat_map (λ w. codes " " ++ w)
        (if b then word ∷ going_words front line words else going_words front line words)
    go true rest = ap (λ xs. (codes " " ++ word) ++ xs) rest
    go false rest = rest
