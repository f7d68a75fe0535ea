-- The parts of a sound expression are sound.
use Rattle.mr_eval.proofs.Common.{◌≡◌, ℕ, ◌<◌, true, List, [], ◌∷◌, Option, None, Some, length, drop, get_or, ◌+◌, sym, ap, subst, ◌∙◌, ◌&&◌, is_some, IntType, Num, Ty, out-Ty, BinaryOp, UnaryOp, Place, Value, Named, is_shaped_place, is_shaped_value, drop_more, same_Some, and_parts, is_fitting, TypeOk, size_of, Memory, Went, has_shape, Val, is_type, is_union_layer, field_type, result_type, type_of_place, type_of_value, variant_type, same_type_equal, broken_in_place, broken_in_value, FieldShaped, valued, Surround, Seen, SoundPlace, SoundValue, SoundValues, Stands, eq_from}
use Rattle.std.specs.List.{flat_map, list_all}
use Rattle.mr_ast.specs.ShapedTypes.{fits_u64, is_shaped_num, is_shaped_type}
use Rattle.mr_ast.proofs.ShapedLaws.{shaped_addr_of, shaped_binary, shaped_cast, shaped_deref, shaped_disc, shaped_field_place, shaped_index_place, shaped_load, shaped_transmute, shaped_tuple, shaped_unary, shaped_union, shaped_variant, shaped_variant_place}
use Rattle.mr_typing.specs.Operands.{same_size}
use Rattle.mr_typing.proofs.ExprWalk.{result_there}
use Rattle.mr_typing.proofs.NothingLaws.{both_nothing}
use Rattle.mr_typing.proofs.TypedLaws.{typed_addr_of, typed_binary, typed_cast, typed_deref, typed_disc, typed_field, typed_index, typed_int, typed_load, typed_transmute, typed_tuple, typed_unary, typed_union, typed_variant, typed_variant_place}
use Rattle.mr_eval.specs.Sound.{around}
use Rattle.mr_ast.specs.declared.expr.Place.TheVariants as place
use Rattle.mr_ast.specs.declared.expr.Value.TheVariants as value
use Rattle.mr_eval.proofs.ExprSafe.{place_safe, value_safe}
use Rattle.mr_eval.proofs.FoundFits.{comes_to}
use Rattle.mr_eval.proofs.OperatorsSafe.{Shaped}
use Rattle.mr_eval.proofs.SafeRuns.{value_comes}

-- a type that is there and is this one
is_type_there : (o : Option Ty) (u : Ty) → is_type o u ≡ true → o ≡ Some u
is_type_there None u e = absurd (cc)
is_type_there (Some t) u e = ap Some (sym (same_type_equal u t e))

module _ (s : Surround) where
  a_place : (p : Place) (named : Named) (sizes : List ℕ) → Stands named s → is_shaped_place named p ≡ true → broken_in_place (around sizes s) p ≡ [] → SoundPlace s p
  a_place p named sizes stands shaped unbroken = record { named = named; sizes = sizes; stands = stands; shaped = shaped; unbroken = unbroken }

  a_value : (v : Value) (named : Named) (sizes : List ℕ) → Stands named s → is_shaped_value named v ≡ true → broken_in_value (around sizes s) v ≡ [] → SoundValue s v
  a_value v named sizes stands shaped unbroken = record { named = named; sizes = sizes; stands = stands; shaped = shaped; unbroken = unbroken }

  pub sound_deref : (whole : Place) (v : Value) (t : Ty) → whole ≡ place.Deref v t → SoundPlace s whole → SoundValue s v
  sound_deref whole v t is sound = let h = subst (SoundPlace s) is sound in
      a_value v h.named h.sizes h.stands
      ((and_parts (is_shaped_value h.named v) (is_shaped_type t) (sym (shaped_deref h.named v t) ∙ h.shaped)).0)
      ((typed_deref h.named (around h.sizes s) h.stands.locals v t h.shaped h.unbroken).0.unbroken)

  pub sound_field : (whole : Place) (p : Place) (k : ℕ) → whole ≡ place.Field p k → SoundPlace s whole → SoundPlace s p
  sound_field whole p k is sound = let h = subst (SoundPlace s) is sound in
      a_place p h.named h.sizes h.stands
      ((and_parts (is_shaped_place h.named p) (fits_u64 k) (sym (shaped_field_place h.named p k) ∙ h.shaped)).0)
      ((typed_field h.named (around h.sizes s) h.stands.locals p k h.shaped h.unbroken).unbroken)

  pub sound_array : (whole : Place) (p : Place) (i : Value) → whole ≡ place.Index p i → SoundPlace s whole → SoundPlace s p
  sound_array whole p i is sound = let h = subst (SoundPlace s) is sound in
      a_place p h.named h.sizes h.stands
      ((and_parts (is_shaped_place h.named p) (is_shaped_value h.named i) (sym (shaped_index_place h.named p i) ∙ h.shaped)).0)
      ((typed_index h.named (around h.sizes s) h.stands.locals p i h.shaped h.unbroken).0.unbroken)

  pub sound_index : (whole : Place) (p : Place) (i : Value) → whole ≡ place.Index p i → SoundPlace s whole → SoundValue s i
  sound_index whole p i is sound = let h = subst (SoundPlace s) is sound in
      a_value i h.named h.sizes h.stands
      ((and_parts (is_shaped_place h.named p) (is_shaped_value h.named i) (sym (shaped_index_place h.named p i) ∙ h.shaped)).1)
      ((typed_index h.named (around h.sizes s) h.stands.locals p i h.shaped h.unbroken).1.unbroken)

  pub sound_variant_place : (whole : Place) (p : Place) (n : Num) → whole ≡ place.Variant p n → SoundPlace s whole → SoundPlace s p
  sound_variant_place whole p n is sound = let h = subst (SoundPlace s) is sound in
      a_place p h.named h.sizes h.stands
      ((and_parts (is_shaped_place h.named p) (is_shaped_num n) (sym (shaped_variant_place h.named p n) ∙ h.shaped)).0)
      ((typed_variant_place h.named (around h.sizes s) h.stands.locals p n h.shaped h.unbroken).unbroken)

  pub sound_union : (whole : Value) (t : Ty) (k : ℕ) (v : Value) → whole ≡ value.Union t k v → SoundValue s whole → SoundValue s v
  sound_union whole t k v is sound = let h = subst (SoundValue s) is sound in
      a_value v h.named h.sizes h.stands
      ((and_parts (fits_u64 k) (is_shaped_value h.named v) (and_parts (is_shaped_type t) (fits_u64 k && is_shaped_value h.named v) (sym (shaped_union h.named t k v) ∙ h.shaped)).1).1)
      ((typed_union h.named (around h.sizes s) h.stands.locals t k v h.shaped h.unbroken).1.unbroken)

  pub sound_variant : (whole : Value) (t : Ty) (n : Num) (v : Value) → whole ≡ value.Variant t n v → SoundValue s whole → SoundValue s v
  sound_variant whole t n v is sound = let h = subst (SoundValue s) is sound in
      a_value v h.named h.sizes h.stands
      ((and_parts (is_shaped_num n) (is_shaped_value h.named v) (and_parts (is_shaped_type t) (is_shaped_num n && is_shaped_value h.named v) (sym (shaped_variant h.named t n v) ∙ h.shaped)).1).1)
      ((typed_variant h.named (around h.sizes s) h.stands.locals t n v h.shaped h.unbroken).1.unbroken)

  pub sound_load : (whole : Value) (p : Place) → whole ≡ value.Load p → SoundValue s whole → SoundPlace s p
  sound_load whole p is sound = let h = subst (SoundValue s) is sound in
      a_place p h.named h.sizes h.stands
      (sym (shaped_load h.named p) ∙ h.shaped)
      ((typed_load h.named (around h.sizes s) h.stands.locals p h.shaped h.unbroken).unbroken)

  pub sound_disc : (whole : Value) (p : Place) → whole ≡ value.Disc p → SoundValue s whole → SoundPlace s p
  sound_disc whole p is sound = let h = subst (SoundValue s) is sound in
      a_place p h.named h.sizes h.stands
      (sym (shaped_disc h.named p) ∙ h.shaped)
      ((typed_disc h.named (around h.sizes s) h.stands.locals p h.shaped h.unbroken).unbroken)

  pub sound_addr_of : (whole : Value) (t : Ty) (p : Place) → whole ≡ value.AddrOf t p → SoundValue s whole → SoundPlace s p
  sound_addr_of whole t p is sound = let h = subst (SoundValue s) is sound in
      a_place p h.named h.sizes h.stands
      ((and_parts (is_shaped_type t) (is_shaped_place h.named p) (sym (shaped_addr_of h.named t p) ∙ h.shaped)).1)
      ((typed_addr_of h.named (around h.sizes s) h.stands.locals t p h.shaped h.unbroken).2.unbroken)

  pub sound_cast : (whole : Value) (i : IntType) (v : Value) → whole ≡ value.Cast i v → SoundValue s whole → SoundValue s v
  sound_cast whole i v is sound = let h = subst (SoundValue s) is sound in
      a_value v h.named h.sizes h.stands
      (sym (shaped_cast h.named i v) ∙ h.shaped)
      ((typed_cast h.named (around h.sizes s) h.stands.locals i v h.shaped h.unbroken).unbroken)

  pub sound_transmute : (whole : Value) (t : Ty) (v : Value) → whole ≡ value.Transmute t v → SoundValue s whole → SoundValue s v
  sound_transmute whole t v is sound = let h = subst (SoundValue s) is sound in
      a_value v h.named h.sizes h.stands
      ((and_parts (is_shaped_type t) (is_shaped_value h.named v) (sym (shaped_transmute h.named t v) ∙ h.shaped)).1)
      ((typed_transmute h.named (around h.sizes s) h.stands.locals t v h.shaped h.unbroken).1.unbroken)

  pub sound_unary : (whole : Value) (o : UnaryOp) (v : Value) → whole ≡ value.Unary o v → SoundValue s whole → SoundValue s v
  sound_unary whole o v is sound = let h = subst (SoundValue s) is sound in
      a_value v h.named h.sizes h.stands
      (sym (shaped_unary h.named o v) ∙ h.shaped)
      ((typed_unary h.named (around h.sizes s) h.stands.locals o v h.shaped h.unbroken).unbroken)

  pub sound_left : (whole : Value) (o : BinaryOp) (a b : Value) → whole ≡ value.Binary o a b → SoundValue s whole → SoundValue s a
  sound_left whole o a b is sound = let h = subst (SoundValue s) is sound in
      a_value a h.named h.sizes h.stands
      ((and_parts (is_shaped_value h.named a) (is_shaped_value h.named b) (sym (shaped_binary h.named o a b) ∙ h.shaped)).0)
      ((typed_binary h.named (around h.sizes s) h.stands.locals o a b h.shaped h.unbroken).unbroken_left)

  pub sound_right : (whole : Value) (o : BinaryOp) (a b : Value) → whole ≡ value.Binary o a b → SoundValue s whole → SoundValue s b
  sound_right whole o a b is sound = let h = subst (SoundValue s) is sound in
      a_value b h.named h.sizes h.stands
      ((and_parts (is_shaped_value h.named a) (is_shaped_value h.named b) (sym (shaped_binary h.named o a b) ∙ h.shaped)).1)
      ((typed_binary h.named (around h.sizes s) h.stands.locals o a b h.shaped h.unbroken).unbroken_right)

  pub sound_tuple : (whole : Value) (t : Ty) (vs : List Value) → whole ≡ value.Tuple t vs → SoundValue s whole → SoundValues s vs
  sound_tuple whole t vs is sound = let h = subst (SoundValue s) is sound in
      record {
        named = h.named;
        sizes = h.sizes;
        stands = h.stands;
        shaped = (and_parts (is_shaped_type t) (list_all (is_shaped_value h.named) vs) (sym (shaped_tuple h.named t vs) ∙ h.shaped)).1;
        unbroken = (typed_tuple h.named (around h.sizes s) h.stands.locals t vs h.shaped h.unbroken).1.unbroken;
      }

  -- the first of values in a row, and the others
  row_parts : (v : Value) (vs : List Value) → SoundValues s (v ∷ vs) → SoundValue s v × SoundValues s vs
  row_parts v vs h =
      let shaped = and_parts (is_shaped_value h.named v) (list_all (is_shaped_value h.named) vs) h.shaped in
      let none = both_nothing (broken_in_value (around h.sizes s) v) (flat_map (broken_in_value (around h.sizes s)) vs) h.unbroken in (
        a_value v h.named h.sizes h.stands shaped.0 none.0,
        record { named = h.named; sizes = h.sizes; stands = h.stands; shaped = shaped.1; unbroken = none.1 },
      )

  pub sound_at : (vs : List Value) (i : ℕ) (d : Value) → i < length vs → SoundValues s (drop i vs) → SoundValue s (get_or vs i d)
  sound_at vs i d lt h = (row_parts _ _ (subst (SoundValues s) (drop_more vs i d lt) h)).0

  pub sound_behind : (vs : List Value) (i : ℕ) (d : Value) → i < length vs → SoundValues s (drop i vs) → SoundValues s (drop (i + 1) vs)
  sound_behind vs i d lt h = (row_parts _ _ (subst (SoundValues s) (drop_more vs i d lt) h)).1

  -- the types of sound expressions
  pub place_ok : (p : Place) (t : Ty) → SoundPlace s p → type_of_place s.locals p ≡ Some t → TypeOk t
  place_ok p t h e =
      let is = place_safe h.named h.sizes s h.stands p h.shaped h.unbroken in
      subst TypeOk (same_Some is.ty t (sym is.is ∙ e)) is.ok

  pub value_ok : (v : Value) (t : Ty) → SoundValue s v → type_of_value s.locals v ≡ Some t → TypeOk t
  value_ok v t h e =
      let is = value_safe h.named h.sizes s h.stands v h.shaped h.unbroken in
      subst TypeOk (same_Some is.ty t (sym is.is ∙ e)) is.ok

  pub variant_there : (whole p : Place) (n : Num) (t : Ty) → whole ≡ place.Variant p n → SoundPlace s whole → type_of_place s.locals p ≡ Some t → is_some (variant_type t n) ≡ true
  variant_there whole p n t is sound e =
      let h = subst (SoundPlace s) is sound in
      let typed = typed_variant_place h.named (around h.sizes s) h.stands.locals p n h.shaped h.unbroken in
      subst (λ (u : Ty). is_some (variant_type u n) ≡ true) (same_Some typed.ty t (sym typed.is ∙ e)) typed.fits

  pub int_fits : (whole : Value) (i : IntType) (n : Num) → whole ≡ value.Int i n → SoundValue s whole → is_fitting i n ≡ true
  int_fits whole i n is sound =
      let h = subst (SoundValue s) is sound in
      typed_int h.named (around h.sizes s) h.stands.locals i n h.unbroken

  -- what an expression comes to has the shape of its type
  pub shape_given : (m : Memory) (v : Value) (t : Ty) (x : Val) (old new : Seen) → SoundValue s v → type_of_value s.locals v ≡ Some t
      → valued m s v old ≡ Went x new → has_shape t x ≡ true
  shape_given m v t x old new h e went =
      let is = value_safe h.named h.sizes s h.stands v h.shaped h.unbroken in
      let shape : has_shape is.ty x ≡ true = comes_to (Shaped is.ty) _ x new went (value_comes h.named h.sizes s h.stands m old v h.shaped h.unbroken) in
      subst (λ (u : Ty). has_shape u x ≡ true) (same_Some is.ty t (sym is.is ∙ e)) shape

  -- the content of a union has the shape of the field
  pub union_content : (m : Memory) (whole v : Value) (t u : Ty) (k : ℕ) (x : Val) (old new : Seen) → whole ≡ value.Union t k v → SoundValue s whole
      → type_of_value s.locals v ≡ Some u → valued m s v old ≡ Went x new → TypeOk t × FieldShaped t k x
  union_content m whole v t u k x old new is sound e went =
      let h = subst (SoundValue s) is sound in
      let typed = typed_union h.named (around h.sizes s) h.stands.locals t k v h.shaped h.unbroken in
      let fits = (and_parts (is_union_layer (out-Ty t)) (is_type (field_type t k) typed.1.ty) typed.1.fits).1 in
      let field = is_type_there (field_type t k) typed.1.ty fits in
      (typed.0, record { ty = typed.1.ty; is = field; shape = shape_given m v typed.1.ty x old new (sound_union whole t k v is sound) typed.1.is went })

  -- a transmuted value is of a well-formed type of the same size
  pub transmute_types : (whole v : Value) (t u : Ty) → whole ≡ value.Transmute t v → SoundValue s whole
      → type_of_value s.locals v ≡ Some u → TypeOk t × (size_of u ≡ size_of t)
  transmute_types whole v t u is sound e =
      let h = subst (SoundValue s) is sound in
      let typed = typed_transmute h.named (around h.sizes s) h.stands.locals t v h.shaped h.unbroken in
      (typed.0, sym (eq_from (size_of t) (size_of u) (subst (λ (w : Ty). same_size t w ≡ true) (same_Some typed.1.ty u (sym typed.1.is ∙ e)) typed.1.fits)))

  -- an operator gives a result on the types of its operands
  pub result_given : (whole : Value) (o : BinaryOp) (a b : Value) (t : Ty) → whole ≡ value.Binary o a b → SoundValue s whole
      → type_of_value s.locals a ≡ Some t → is_some (result_type o t) ≡ true
  result_given whole o a b t is sound e =
      let h = subst (SoundValue s) is sound in
      let typed = typed_binary h.named (around h.sizes s) h.stands.locals o a b h.shaped h.unbroken in
      subst (λ (w : Ty). is_some (result_type o w) ≡ true) (same_Some typed.left t (sym typed.is_left ∙ e)) (result_there o typed.left typed.right typed.fits)

pub ruleset type_facts = (place_ok, value_ok, variant_there)

pub ruleset sound_laws = (sound_deref, sound_field, sound_array, sound_index, sound_variant_place, sound_union, sound_variant, sound_load, sound_disc, sound_addr_of, sound_cast, sound_transmute, sound_unary, sound_left, sound_right, sound_tuple)

pub ruleset row_laws = (sound_at, sound_behind)
