-- The equations of `judged_place` and `judged_value`, one for each kind of place and value.
use Rattle.mr_typing.proofs.Common.{◌≡◌, ℕ, List, [], ◌∷◌, map, refl, sym, ap, ◌∙◌, ◌||◌, Option, None, Some, Result, Ok, slice_get, option_map, Rule, IntType, U64, Num, Ty, FnName, GlobalName, Local, LocalName, UnaryOp, BinaryOp, Place, roll-Place, Value, roll-Value, Place-F, Value-F, map-Place, map-Value, fold-roll-Place, fold-roll-Value, is_fitting, discriminant_type, element_type, field_type, result_type, variant_type, fits_binary, fits_parts, fits_unary, fits_union, fits_variant, is_int, is_pointer, is_raw, is_ref, is_scalar_number, same_size, Surroundings, is_in_global, ◌>>=◌, judged_place, judged_value, judged_values, kept, sound_type, there}
use Rattle.mr_typing.specs.Judging.{all_judged, judged_place_step, judged_value_step}
use Rattle.mr_ast.specs.declared.rule.Rule.TheVariants as form
use Rattle.mr_ast.specs.declared.types.Ty.TheVariants as ty
use Rattle.mr_ast.specs.declared.expr.Place.TheVariants as place
use Rattle.mr_ast.specs.declared.expr.Value.TheVariants as value

abbrev Answer : Type 0
Answer = Result Ty Rule

module _ (at : Surroundings) where
  -- one level, at a place and a value that are made of it
  place_roll : (d : Place-F Place Value) → judged_place at (roll-Place d) ≡ judged_place_step at (map-Place Place Value Answer Answer (judged_place at) (judged_value at) d)
  unfolding judged_place judged_value
  place_roll d = fold-roll-Place Answer Answer (judged_place_step at) (judged_value_step at) d

  value_roll : (d : Value-F Place Value) → judged_value at (roll-Value d) ≡ judged_value_step at (map-Value Place Value Answer Answer (judged_place at) (judged_value at) d)
  unfolding judged_place judged_value
  value_roll d = fold-roll-Value Answer Answer (judged_place_step at) (judged_value_step at) d

  all_judged_is : (vs : List Value) → all_judged (map (judged_value at) vs) ≡ judged_values at vs
  all_judged_is [] = refl
  all_judged_is (v ∷ vs) = ap (λ r. judged_value at v >>= (λ t. r >>= (λ ts. Ok (t ∷ ts)))) (all_judged_is vs)

  pub judged_local : (x : LocalName) → judged_place at (place.Local x) ≡ (there form.Place (slice_get at.locals x.0) >>= (λ l. Ok l.ty))
  judged_local x = ap (judged_place at) (sym (place.rolls-Local x)) ∙ place_roll (Place-F.Local x)

  -- the same, where the type of the local must be there
  pub judged_local_there : (x : LocalName) → judged_place at (place.Local x) ≡ there form.Place (option_map (λ (l : Local). l.ty) (slice_get at.locals x.0))
  judged_local_there x = judged_local x ∙ typed (slice_get at.locals x.0)
    where
      typed : (o : Option Local) → (there form.Place o >>= (λ (l : Local). Ok l.ty)) ≡ there form.Place (option_map (λ (l : Local). l.ty) o)
      typed None = refl
      typed (Some l) = refl

  pub judged_deref : (v : Value) (t : Ty)
      → judged_place at (place.Deref v t) ≡ (judged_value at v >>= (λ u. sound_type t >>= (λ _. kept form.Place (is_pointer u) >>= (λ _. Ok t))))
  judged_deref v t = ap (judged_place at) (sym (place.rolls-Deref v t)) ∙ place_roll (Place-F.Deref v t)

  pub judged_field : (p : Place) (k : ℕ) → judged_place at (place.Field p k) ≡ (judged_place at p >>= (λ t. there form.Place (field_type t k)))
  judged_field p k = ap (judged_place at) (sym (place.rolls-Field p k)) ∙ place_roll (Place-F.Field p k)

  pub judged_index : (p : Place) (i : Value)
      → judged_place at (place.Index p i) ≡ (judged_place at p >>= (λ t. judged_value at i >>= (λ u. there form.Place (element_type t) >>= (λ elem. kept form.Place (is_int U64 u) >>= (λ _. Ok elem)))))
  judged_index p i = ap (judged_place at) (sym (place.rolls-Index p i)) ∙ place_roll (Place-F.Index p i)

  pub judged_variant_place : (p : Place) (n : Num) → judged_place at (place.Variant p n) ≡ (judged_place at p >>= (λ t. there form.Place (variant_type t n)))
  judged_variant_place p n = ap (judged_place at) (sym (place.rolls-Variant p n)) ∙ place_roll (Place-F.Place::Variant p n)

  pub judged_int : (i : IntType) (n : Num) → judged_value at (value.Int i n) ≡ (kept form.ConstRange (is_fitting i n) >>= (λ _. Ok (ty.Int i)))
  judged_int i n = ap (judged_value at) (sym (value.rolls-Int i n)) ∙ value_roll (Value-F.Int i n)

  pub judged_true : judged_value at value.True ≡ (Ok ty.Bool)
  judged_true = ap (judged_value at) (sym value.rolls-True) ∙ value_roll Value-F.True

  pub judged_false : judged_value at value.False ≡ (Ok ty.Bool)
  judged_false = ap (judged_value at) (sym value.rolls-False) ∙ value_roll Value-F.False

  pub judged_raw : (n : ℕ) → judged_value at (value.Raw n) ≡ (Ok ty.Raw)
  judged_raw n = ap (judged_value at) (sym (value.rolls-Raw n)) ∙ value_roll (Value-F.Raw n)

  pub judged_fn : (f : FnName) → judged_value at (value.Fn f) ≡ (Ok ty.FnPtr)
  judged_fn f = ap (judged_value at) (sym (value.rolls-Fn f)) ∙ value_roll (Value-F.Fn f)

  pub judged_global : (g : GlobalName) (n : ℕ) → judged_value at (value.Global g n) ≡ (kept form.GlobalRef (is_in_global at.sizes g.0 n) >>= (λ _. Ok ty.Raw))
  judged_global g n = ap (judged_value at) (sym (value.rolls-Global g n)) ∙ value_roll (Value-F.Global g n)

  pub judged_tuple : (t : Ty) (vs : List Value)
      → judged_value at (value.Tuple t vs) ≡ (sound_type t >>= (λ _. judged_values at vs >>= (λ types. kept form.Aggregate (fits_parts t types) >>= (λ _. Ok t))))
  judged_tuple t vs = ap (judged_value at) (sym (value.rolls-Tuple t vs)) ∙ value_roll (Value-F.Tuple t vs)
      ∙ ap (λ r. sound_type t >>= (λ _. r >>= (λ types. kept form.Aggregate (fits_parts t types) >>= (λ _. Ok t)))) (all_judged_is vs)

  pub judged_union : (t : Ty) (k : ℕ) (v : Value)
      → judged_value at (value.Union t k v) ≡ (sound_type t >>= (λ _. judged_value at v >>= (λ u. kept form.Aggregate (fits_union t k u) >>= (λ _. Ok t))))
  judged_union t k v = ap (judged_value at) (sym (value.rolls-Union t k v)) ∙ value_roll (Value-F.Union t k v)

  pub judged_variant : (t : Ty) (n : Num) (v : Value)
      → judged_value at (value.Variant t n v) ≡ (sound_type t >>= (λ _. judged_value at v >>= (λ u. kept form.Aggregate (fits_variant t n u) >>= (λ _. Ok t))))
  judged_variant t n v = ap (judged_value at) (sym (value.rolls-Variant t n v)) ∙ value_roll (Value-F.Value::Variant t n v)

  pub judged_load : (p : Place) → judged_value at (value.Load p) ≡ (judged_place at p)
  judged_load p = ap (judged_value at) (sym (value.rolls-Load p)) ∙ value_roll (Value-F.Load p)

  pub judged_disc : (p : Place) → judged_value at (value.Disc p) ≡ (judged_place at p >>= (λ t. there form.Discriminant (discriminant_type t)))
  judged_disc p = ap (judged_value at) (sym (value.rolls-Disc p)) ∙ value_roll (Value-F.Disc p)

  pub judged_addr_of : (t : Ty) (p : Place)
      → judged_value at (value.AddrOf t p) ≡ (sound_type t >>= (λ _. judged_place at p >>= (λ _. kept form.Cast (is_raw t || is_ref t) >>= (λ _. Ok t))))
  judged_addr_of t p = ap (judged_value at) (sym (value.rolls-AddrOf t p)) ∙ value_roll (Value-F.AddrOf t p)

  pub judged_cast : (i : IntType) (v : Value)
      → judged_value at (value.Cast i v) ≡ (judged_value at v >>= (λ u. kept form.Cast (is_scalar_number u) >>= (λ _. Ok (ty.Int i))))
  judged_cast i v = ap (judged_value at) (sym (value.rolls-Cast i v)) ∙ value_roll (Value-F.Cast i v)

  pub judged_transmute : (t : Ty) (v : Value)
      → judged_value at (value.Transmute t v) ≡ (sound_type t >>= (λ _. judged_value at v >>= (λ u. kept form.Cast (same_size t u) >>= (λ _. Ok t))))
  judged_transmute t v = ap (judged_value at) (sym (value.rolls-Transmute t v)) ∙ value_roll (Value-F.Transmute t v)

  pub judged_unary : (o : UnaryOp) (v : Value)
      → judged_value at (value.Unary o v) ≡ (judged_value at v >>= (λ u. kept form.Operand (fits_unary o u) >>= (λ _. Ok u)))
  judged_unary o v = ap (judged_value at) (sym (value.rolls-Unary o v)) ∙ value_roll (Value-F.Unary o v)

  pub judged_binary : (o : BinaryOp) (a b : Value)
      → judged_value at (value.Binary o a b) ≡ (judged_value at a >>= (λ l. judged_value at b >>= (λ r. kept form.Operand (fits_binary o l r) >>= (λ _. there form.Operand (result_type o l)))))
  judged_binary o a b = ap (judged_value at) (sym (value.rolls-Binary o a b)) ∙ value_roll (Value-F.Binary o a b)

pub ruleset judged_laws = (judged_local_there, judged_deref, judged_field, judged_index, judged_variant_place, judged_int, judged_true, judged_false, judged_raw, judged_fn, judged_global, judged_tuple, judged_union, judged_variant, judged_load, judged_disc, judged_addr_of, judged_cast, judged_transmute, judged_unary, judged_binary)
