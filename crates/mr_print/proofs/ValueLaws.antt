-- What is written of places and values, piece by piece.
use Rattle.mr_print.proofs.Common.{◌≡◌, ℕ, List, [], ◌∷◌, codes, decimal, flat_map, int_word, words_of_type, words_of_value, with_word, with_words}
use Rattle.mr_ast.specs.declared.types.IntType.{IntType}
use Rattle.mr_ast.specs.declared.types.Num.{Num}
use Rattle.mr_ast.specs.declared.types.Ty.{Ty}
use Rattle.mr_ast.specs.declared.expr.UnaryOp.{UnaryOp}
use Rattle.mr_ast.specs.declared.expr.Place.{Place}
use Rattle.mr_ast.specs.declared.expr.Value.{Value}
use Rattle.mr_ast.specs.CanonTypes.{num_words}
use Rattle.mr_ast.specs.CanonValues.{NameTexts, unary_word, words_of_place}
use Rattle.mr_ast.proofs.CanonValueLaws.{words_local, words_deref, words_field, words_index, words_variant_place, words_int, words_true, words_false, words_raw, words_fn, words_global, words_tuple, words_union, words_variant, words_load, words_disc, words_addr_of, words_cast, words_transmute, words_unary, words_binary}
use Rattle.mr_ast.specs.declared.expr.Place.TheVariants as place
use Rattle.mr_ast.specs.declared.expr.Value.TheVariants as value
use Rattle.mr_print.proofs.AppendLaws.{word_laws}

module _ (names : NameTexts) where
  pub written_deref : (old : List ℕ) (v : Value) (t : Ty) → with_words old (words_of_place names (place.Deref v t))
      ≡ with_word (with_words (with_word (with_words (with_words old (codes "deref" ∷ codes "(" ∷ [])) (words_of_value names v)) (codes ",")) (words_of_type t)) (codes ")")
  written_deref old v t = rw words_deref (simp word_laws)

  pub written_tuple : (old : List ℕ) (t : Ty) (vs : List Value) → with_words old (words_of_value names (value.Tuple t vs))
      ≡ with_word (with_words (with_words (with_words old (codes "tuple" ∷ codes "(" ∷ [])) (words_of_type t)) (flat_map (λ v. codes "," ∷ words_of_value names v) vs)) (codes ")")
  written_tuple old t vs = rw words_tuple (simp word_laws)

  pub written_union : (old : List ℕ) (t : Ty) (k : ℕ) (v : Value) → with_words old (words_of_value names (value.Union t k v))
      ≡ with_word (with_words (with_word (with_word (with_word (with_words (with_words old (codes "union" ∷ codes "(" ∷ [])) (words_of_type t)) (codes ",")) (decimal k)) (codes ",")) (words_of_value names v)) (codes ")")
  written_union old t k v = rw words_union (simp word_laws)

  pub written_variant : (old : List ℕ) (t : Ty) (n : Num) (v : Value) → with_words old (words_of_value names (value.Variant t n v))
      ≡ with_word (with_words (with_word (with_words (with_word (with_words (with_words old (codes "variant" ∷ codes "(" ∷ [])) (words_of_type t)) (codes ",")) (num_words n)) (codes ",")) (words_of_value names v)) (codes ")")
  written_variant old t n v = rw words_variant (simp word_laws)

  pub written_addr_of : (old : List ℕ) (t : Ty) (p : Place) → with_words old (words_of_value names (value.AddrOf t p))
      ≡ with_word (with_words (with_word (with_words (with_words old (codes "addrof" ∷ codes "(" ∷ [])) (words_of_type t)) (codes ",")) (words_of_place names p)) (codes ")")
  written_addr_of old t p = rw words_addr_of (simp word_laws)

  pub written_cast : (old : List ℕ) (i : IntType) (v : Value) → with_words old (words_of_value names (value.Cast i v))
      ≡ with_word (with_words (with_word (with_word (with_words old (codes "cast" ∷ codes "(" ∷ [])) (int_word i)) (codes ",")) (words_of_value names v)) (codes ")")
  written_cast old i v = rw words_cast (simp word_laws)

  pub written_transmute : (old : List ℕ) (t : Ty) (v : Value) → with_words old (words_of_value names (value.Transmute t v))
      ≡ with_word (with_words (with_word (with_words (with_words old (codes "transmute" ∷ codes "(" ∷ [])) (words_of_type t)) (codes ",")) (words_of_value names v)) (codes ")")
  written_transmute old t v = rw words_transmute (simp word_laws)

  pub written_unary : (old : List ℕ) (o : UnaryOp) (v : Value) → with_words old (words_of_value names (value.Unary o v))
      ≡ with_word (with_words (with_words old (unary_word o ∷ codes "(" ∷ [])) (words_of_value names v)) (codes ")")
  written_unary old o v = rw words_unary (simp word_laws)

-- places and values of few words
pub ruleset place_laws = (word_laws, words_local, words_field, words_index, words_variant_place)

pub ruleset value_laws = (word_laws, words_int, words_true, words_false, words_raw, words_fn, words_global, words_load, words_disc, words_binary)
