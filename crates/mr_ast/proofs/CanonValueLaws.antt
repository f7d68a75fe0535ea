-- The equations of the canonical words of places and values, one for each kind.
use Rattle.mr_ast.proofs.Common.{◌≡◌, ℕ, List, [], ◌∷◌, ◌++◌, sym, ap, ◌∙◌, codes, decimal, IntType, Num, Ty, FnName, GlobalName, LocalName, UnaryOp, BinaryOp, Place, roll-Place, Value, roll-Value, Place-F, Value-F, map-Place, map-Value, fold-roll-Place, fold-roll-Value, Texts, int_word, num_words, words_of_type, NameTexts, text_at, unary_word, binary_word, words_of_place, words_of_value}
use Rattle.std.specs.Prelude.{flat_map}
use Rattle.mr_ast.specs.CanonValues.{place_words_step, value_words_step}
use Rattle.mr_ast.specs.declared.expr.Place.TheVariants as place
use Rattle.mr_ast.specs.declared.expr.Value.TheVariants as value
use Rattle.mr_ast.proofs.CanonTypeLaws.{flat_map-map}

module _ (names : NameTexts) where
  place_roll : (d : Place-F Place Value) → words_of_place names (roll-Place d) ≡ place_words_step names (map-Place Place Value Texts Texts (words_of_place names) (words_of_value names) d)
  unfolding words_of_place words_of_value
  place_roll d = fold-roll-Place Texts Texts (place_words_step names) (value_words_step names) d

  value_roll : (d : Value-F Place Value) → words_of_value names (roll-Value d) ≡ value_words_step names (map-Value Place Value Texts Texts (words_of_place names) (words_of_value names) d)
  unfolding words_of_place words_of_value
  value_roll d = fold-roll-Value Texts Texts (place_words_step names) (value_words_step names) d

  pub words_local : (x : LocalName) → words_of_place names (place.Local x) ≡ text_at names.locals x.0 ∷ []
  words_local x = ap (words_of_place names) (sym (place.rolls-Local x)) ∙ place_roll (Place-F.Local x)

  pub words_deref : (v : Value) (t : Ty) → words_of_place names (place.Deref v t) ≡ codes "deref" ∷ codes "(" ∷ words_of_value names v ++ codes "," ∷ words_of_type t ++ codes ")" ∷ []
  words_deref v t = ap (words_of_place names) (sym (place.rolls-Deref v t)) ∙ place_roll (Place-F.Deref v t)

  pub words_field : (p : Place) (k : ℕ) → words_of_place names (place.Field p k) ≡ words_of_place names p ++ codes "." ∷ decimal k ∷ []
  words_field p k = ap (words_of_place names) (sym (place.rolls-Field p k)) ∙ place_roll (Place-F.Field p k)

  pub words_index : (p : Place) (i : Value) → words_of_place names (place.Index p i) ≡ words_of_place names p ++ codes "[" ∷ words_of_value names i ++ codes "]" ∷ []
  words_index p i = ap (words_of_place names) (sym (place.rolls-Index p i)) ∙ place_roll (Place-F.Index p i)

  pub words_variant_place : (p : Place) (n : Num) → words_of_place names (place.Variant p n) ≡ words_of_place names p ++ codes "@" ∷ num_words n
  words_variant_place p n = ap (words_of_place names) (sym (place.rolls-Variant p n)) ∙ place_roll (Place-F.Place::Variant p n)

  pub words_int : (i : IntType) (n : Num) → words_of_value names (value.Int i n) ≡ int_word i ∷ num_words n
  words_int i n = ap (words_of_value names) (sym (value.rolls-Int i n)) ∙ value_roll (Value-F.Int i n)

  pub words_true : words_of_value names value.True ≡ codes "true" ∷ []
  words_true = ap (words_of_value names) (sym value.rolls-True) ∙ value_roll Value-F.True

  pub words_false : words_of_value names value.False ≡ codes "false" ∷ []
  words_false = ap (words_of_value names) (sym value.rolls-False) ∙ value_roll Value-F.False

  pub words_raw : (n : ℕ) → words_of_value names (value.Raw n) ≡ codes "raw" ∷ decimal n ∷ []
  words_raw n = ap (words_of_value names) (sym (value.rolls-Raw n)) ∙ value_roll (Value-F.Raw n)

  pub words_fn : (f : FnName) → words_of_value names (value.Fn f) ≡ codes "fn" ∷ text_at names.functions f.0 ∷ []
  words_fn f = ap (words_of_value names) (sym (value.rolls-Fn f)) ∙ value_roll (Value-F.Fn f)

  pub words_global : (g : GlobalName) (n : ℕ) → words_of_value names (value.Global g n) ≡ codes "global" ∷ text_at names.globals g.0 ∷ codes "+" ∷ decimal n ∷ []
  words_global g n = ap (words_of_value names) (sym (value.rolls-Global g n)) ∙ value_roll (Value-F.Global g n)

  pub words_tuple : (t : Ty) (vs : List Value) → words_of_value names (value.Tuple t vs) ≡ codes "tuple" ∷ codes "(" ∷ words_of_type t ++ flat_map (λ v. codes "," ∷ words_of_value names v) vs ++ codes ")" ∷ []
  words_tuple t vs = ap (words_of_value names) (sym (value.rolls-Tuple t vs)) ∙ value_roll (Value-F.Tuple t vs)
      ∙ ap (λ rows. codes "tuple" ∷ codes "(" ∷ words_of_type t ++ rows ++ codes ")" ∷ []) (flat_map-map (λ (v : Texts). codes "," ∷ v) (words_of_value names) vs)

  pub words_union : (t : Ty) (k : ℕ) (v : Value) → words_of_value names (value.Union t k v) ≡ codes "union" ∷ codes "(" ∷ words_of_type t ++ codes "," ∷ decimal k ∷ codes "," ∷ words_of_value names v ++ codes ")" ∷ []
  words_union t k v = ap (words_of_value names) (sym (value.rolls-Union t k v)) ∙ value_roll (Value-F.Union t k v)

  pub words_variant : (t : Ty) (n : Num) (v : Value) → words_of_value names (value.Variant t n v) ≡ codes "variant" ∷ codes "(" ∷ words_of_type t ++ codes "," ∷ num_words n ++ codes "," ∷ words_of_value names v ++ codes ")" ∷ []
  words_variant t n v = ap (words_of_value names) (sym (value.rolls-Variant t n v)) ∙ value_roll (Value-F.Value::Variant t n v)

  pub words_load : (p : Place) → words_of_value names (value.Load p) ≡ codes "load" ∷ codes "(" ∷ words_of_place names p ++ codes ")" ∷ []
  words_load p = ap (words_of_value names) (sym (value.rolls-Load p)) ∙ value_roll (Value-F.Load p)

  pub words_disc : (p : Place) → words_of_value names (value.Disc p) ≡ codes "disc" ∷ codes "(" ∷ words_of_place names p ++ codes ")" ∷ []
  words_disc p = ap (words_of_value names) (sym (value.rolls-Disc p)) ∙ value_roll (Value-F.Disc p)

  pub words_addr_of : (t : Ty) (p : Place) → words_of_value names (value.AddrOf t p) ≡ codes "addrof" ∷ codes "(" ∷ words_of_type t ++ codes "," ∷ words_of_place names p ++ codes ")" ∷ []
  words_addr_of t p = ap (words_of_value names) (sym (value.rolls-AddrOf t p)) ∙ value_roll (Value-F.AddrOf t p)

  pub words_cast : (i : IntType) (v : Value) → words_of_value names (value.Cast i v) ≡ codes "cast" ∷ codes "(" ∷ int_word i ∷ codes "," ∷ words_of_value names v ++ codes ")" ∷ []
  words_cast i v = ap (words_of_value names) (sym (value.rolls-Cast i v)) ∙ value_roll (Value-F.Cast i v)

  pub words_transmute : (t : Ty) (v : Value) → words_of_value names (value.Transmute t v) ≡ codes "transmute" ∷ codes "(" ∷ words_of_type t ++ codes "," ∷ words_of_value names v ++ codes ")" ∷ []
  words_transmute t v = ap (words_of_value names) (sym (value.rolls-Transmute t v)) ∙ value_roll (Value-F.Transmute t v)

  pub words_unary : (o : UnaryOp) (v : Value) → words_of_value names (value.Unary o v) ≡ unary_word o ∷ codes "(" ∷ words_of_value names v ++ codes ")" ∷ []
  words_unary o v = ap (words_of_value names) (sym (value.rolls-Unary o v)) ∙ value_roll (Value-F.Unary o v)

  pub words_binary : (o : BinaryOp) (a : Value) (b : Value) → words_of_value names (value.Binary o a b) ≡ binary_word o ∷ codes "(" ∷ words_of_value names a ++ codes "," ∷ words_of_value names b ++ codes ")" ∷ []
  words_binary o a b = ap (words_of_value names) (sym (value.rolls-Binary o a b)) ∙ value_roll (Value-F.Binary o a b)
