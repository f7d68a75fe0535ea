-- The change of a statement that breaks no rule is never ill-formed.
use Rattle.mr_frame.proofs.Common.{◌≡◌, ℕ, Bool, true, false, List, [], ◌∷◌, Option, None, Some, refl, sym, ◌∙◌, subst, is_some, if◌then◌else◌, same_Some, and_parts, is_shaped_stmt, is_shaped_num, Named, is_shaped_place, is_shaped_value, Num, Tag, Ty, out-Ty, Ty-F, Variant, Place, Value, Function, Stmt, Pointer, same_num, align_of, size_of, TypeOk, Val, blank, encoding_of, tag_bytes, has_shape, broken_in_stmt, broken_in_place, broken_in_value, tags_among, tags_layer, type_of_place, type_of_value, variant_type, typed_assign, typed_disc_stmt, IllFormed, ◌>>=◌, reading_part, Surround, place_script, value_script, behind, Stands, any_result, around, loading, place_safe, value_safe, Shaped, loading_safe, IsSafeChange, change_then, read_then, IsChange, Change, assign, change, deinit, free_storage, mention, set_discriminant, store, tags_in, validate, with_type, write, write_found, write_tags}
use Rattle.mr_typing.specs.Types.{variant_among, variant_in}
use Rattle.mr_ast.specs.declared.program.Stmt.TheVariants as stmt

-- ---- parts

pub store_safe : (t : Ty) (p : Pointer) (v : Val) → has_shape t v ≡ true → IsSafeChange any_result (store t p v)
store_safe t p v h = by_test (has_shape t v) h
  where
    by_test : (b : Bool) → b ≡ true → IsSafeChange any_result (if b then write p (encoding_of t v) (align_of t) else IllFormed)
    by_test true e = λ u good. tt
    by_test false e = absurd (cc)

pub free_safe : (t : Ty) (storage : Option Pointer) → IsSafeChange any_result (free_storage t storage)
free_safe t None = tt
free_safe t (Some p) = λ u good. tt

-- ---- tags

among_there : (variants : List Variant) (n : Num) → is_some (variant_among variants n) ≡ true → (tags : List Tag) × (tags_among variants n ≡ Some tags)
among_there [] n e = absurd (cc)
among_there (v ∷ variants) n e = by_test (same_num v.number n) refl (among_there variants n)
  where
    by_test : (b : Bool) → same_num v.number n ≡ b → (is_some (variant_among variants n) ≡ true → (tags : List Tag) × (tags_among variants n ≡ Some tags)) → (tags : List Tag) × (tags_among (v ∷ variants) n ≡ Some tags)
    by_test true is more = (v.tags, rw is refl)
    by_test false is more = let rest = more (rw is at e) in (rest.0, rw is rest.1)

pub tags_there : (t : Ty) (n : Num) → is_some (variant_type t n) ≡ true → (tags : List Tag) × (tags_in (Some t) n ≡ Some tags)
tags_there t n e = by_layer (out-Ty t) e
  where
    by_layer : (x : Ty-F Ty Variant) → is_some (variant_in x n) ≡ true → (tags : List Tag) × (tags_layer x n ≡ Some tags)
    by_layer (Ty-F.Enum size align disc variants tree) h = among_there variants n h
    by_layer _ h = absurd (cc)

tagging_safe : (p : Pointer) (tags : List Tag) → IsSafeChange any_result (write_tags p tags)
tagging_safe p [] = tt
tagging_safe p (tag ∷ tags) =
    change_then any_result any_result (write (behind p tag.at) (tag_bytes tag) 1) (λ u. write_tags p tags) (λ u good. tt) (λ u h. tagging_safe p tags)

-- ---- statements

module _ (named : Named) (sizes : List ℕ) (s : Surround) (stands : Stands named s) where
  abbrev pub IsTyped : Place → (Option Ty → Pointer → Change) → Type 0
  IsTyped place f = (t : Ty) (p : Pointer) → type_of_place s.locals place ≡ Some t → TypeOk t → IsSafeChange any_result (f (Some t) p)

  -- what is done at a place whose type is known
  at_place : (place : Place) (f : Option Ty → Pointer → Change) → is_shaped_place named place ≡ true → broken_in_place (around sizes s) place ≡ [] → IsTyped place f
      → IsSafeChange any_result (reading_part (place_script s place) >>= λ p. f (type_of_place s.locals place) p)
  at_place place f shaped none h =
      let is = place_safe named sizes s stands place shaped none in
      read_then any_result any_result (place_script s place) (λ p. f (type_of_place s.locals place) p) is.safe
      (λ p u. subst (λ (t : Option Ty). IsSafeChange any_result (f t p)) (sym is.is) (h is.ty p is.is is.ok))

  assign_safe : (place : Place) (value : Value) → is_shaped_place named place ≡ true → is_shaped_value named value ≡ true
      → broken_in_place (around sizes s) place ≡ [] → broken_in_value (around sizes s) value ≡ []
      → ((t u : Ty) → type_of_place s.locals place ≡ Some t → type_of_value s.locals value ≡ Some u → t ≡ u) → IsSafeChange any_result (assign s place value)
  assign_safe place value shaped_place shaped_value none_place none_value same =
      let is = value_safe named sizes s stands value shaped_value none_value in
      at_place place (λ t p. reading_part (value_script s value) >>= λ v. with_type t (λ u. store u p v)) shaped_place none_place
      (λ t p typed ok. read_then (Shaped is.ty) any_result (value_script s value) (λ v. store t p v) is.safe
      (λ v h. store_safe t p v (subst (λ (u : Ty). has_shape u v ≡ true) (sym (same t is.ty typed is.is)) h)))

  mention_safe : (place : Place) → is_shaped_place named place ≡ true → broken_in_place (around sizes s) place ≡ [] → IsSafeChange any_result (mention s place)
  mention_safe place shaped none =
      let is = place_safe named sizes s stands place shaped none in
      read_then any_result any_result (place_script s place) _ is.safe (λ p u. tt)

  validate_safe : (place : Place) → is_shaped_place named place ≡ true → broken_in_place (around sizes s) place ≡ [] → IsSafeChange any_result (validate s place)
  validate_safe place shaped none =
      at_place place (λ t p. with_type t (λ u. reading_part (loading u p) >>= λ v. store u p v)) shaped none
      (λ t p typed ok. read_then (Shaped t) any_result (loading t p) (λ v. store t p v) (loading_safe t p ok) (λ v h. store_safe t p v h))

  deinit_safe : (place : Place) → is_shaped_place named place ≡ true → broken_in_place (around sizes s) place ≡ [] → IsSafeChange any_result (deinit s place)
  deinit_safe place shaped none = at_place place (λ t p. with_type t (λ u. write p (blank (size_of u)) (align_of u))) shaped none (λ t p typed ok. λ u good. tt)

  discriminate_safe : (place : Place) (number : Num) → is_shaped_place named place ≡ true → broken_in_place (around sizes s) place ≡ []
      → ((t : Ty) → type_of_place s.locals place ≡ Some t → is_some (variant_type t number) ≡ true) → IsSafeChange any_result (set_discriminant s place number)
  discriminate_safe place number shaped none there =
      at_place place (λ t p. write_found p (tags_in t number)) shaped none
      (λ t p typed ok. let tags = tags_there t number (there t typed) in
      subst (λ (o : Option (List Tag)). IsSafeChange any_result (write_found p o)) (sym tags.1) (tagging_safe p tags.0))

  -- A STATEMENT THAT BREAKS NO RULE
  pub change_safe : (f : Function) (x : Stmt) → is_shaped_stmt named x ≡ true → broken_in_stmt f (around sizes s) x ≡ [] → IsChange x → IsSafeChange any_result (change s x)
  change_safe f (stmt.Live x) shaped none kind = absurd kind
  change_safe f (stmt.Dead x) shaped none kind = absurd kind
  change_safe f (stmt.Assign place value) shaped none kind =
      let parts = and_parts (is_shaped_place named place) (is_shaped_value named value) shaped in
      let typed = typed_assign named f (around sizes s) stands.locals place value shaped none in
      assign_safe place value parts.0 parts.1 typed.unbroken_place typed.unbroken_value
      (λ t u is_t is_u. same_Some t typed.ty (sym is_t ∙ typed.place) ∙ same_Some typed.ty u (sym typed.value ∙ is_u))
  change_safe f (stmt.Mention place) shaped none kind = mention_safe place shaped none
  change_safe f (stmt.Disc place number) shaped none kind =
      let parts = and_parts (is_shaped_place named place) (is_shaped_num number) shaped in
      let typed = typed_disc_stmt named f (around sizes s) stands.locals place number shaped none in
      discriminate_safe place number parts.0 typed.unbroken (λ t is. subst (λ (u : Ty). is_some (variant_type u number) ≡ true) (same_Some typed.ty t (sym typed.is ∙ is)) typed.fits)
  change_safe f (stmt.Deinit place) shaped none kind = deinit_safe place shaped none
  change_safe f (stmt.Validate place) shaped none kind = validate_safe place shaped none
