-- Which type a kind of type is, and what it means to be written as a type that has no parts.
use Rattle.mr_typing.proofs.Common.{◌≡◌, ◌↔◌, Bool, true, Some, refl, sym, ap, subst, ◌∙◌, same_from_decides, IntType, Ty, roll-Ty, out-Ty, Ty-F, Variant, same_type, integer_in, integer_of, is_bool, is_bool_layer, is_fn_ptr, is_raw, type_made}
use Rattle.mr_typing.specs.Operands.{is_fn_ptr_layer, is_raw_layer}
use Rattle.mr_ast.specs.declared.types.Ty.TheVariants as ty
use Rattle.mr_typing.proofs.SameTypeLaws.{same_type_equal, same_type_itself}

-- ---- a type of a kind

abbrev Layer : Type 0
Layer = Ty-F Ty Variant

pub integer_is : (t : Ty) (i : IntType) → integer_of t ≡ Some i → t ≡ ty.Int i
integer_is t i e = sym (type_made t) ∙ ap roll-Ty (by_layer (out-Ty t) e) ∙ ty.rolls-Int i
  where
    by_layer : (x : Layer) → integer_in x ≡ Some i → x ≡ Ty-F.Int i
    by_layer (Ty-F.Int j) h = cc
    by_layer _ h = absurd (cc)

pub bool_is : (t : Ty) → is_bool t ≡ true → t ≡ ty.Bool
bool_is t e = sym (type_made t) ∙ ap roll-Ty (by_layer (out-Ty t) e) ∙ ty.rolls-Bool
  where
    by_layer : (x : Layer) → is_bool_layer x ≡ true → x ≡ Ty-F.Bool
    by_layer Ty-F.Bool h = refl
    by_layer _ h = absurd (cc)

pub raw_is : (t : Ty) → is_raw t ≡ true → t ≡ ty.Raw
raw_is t e = sym (type_made t) ∙ ap roll-Ty (by_layer (out-Ty t) e) ∙ ty.rolls-Raw
  where
    by_layer : (x : Layer) → is_raw_layer x ≡ true → x ≡ Ty-F.Raw
    by_layer Ty-F.Raw h = refl
    by_layer _ h = absurd (cc)

pub fn_ptr_is : (t : Ty) → is_fn_ptr t ≡ true → t ≡ ty.FnPtr
fn_ptr_is t e = sym (type_made t) ∙ ap roll-Ty (by_layer (out-Ty t) e) ∙ ty.rolls-FnPtr
  where
    by_layer : (x : Layer) → is_fn_ptr_layer x ≡ true → x ≡ Ty-F.FnPtr
    by_layer Ty-F.FnPtr h = refl
    by_layer _ h = absurd (cc)

-- ---- written as such a type

pub same_type_sym : (t u : Ty) → same_type t u ≡ same_type u t
same_type_sym t u = same_from_decides {P = t ≡ u} (same_type t u) (same_type u t)
    (same_type_equal t u, λ e. subst (λ (x : Ty). same_type t x ≡ true) e (same_type_itself t))
    (λ e. sym (same_type_equal u t e), λ e. subst (λ (x : Ty). same_type u x ≡ true) (sym e) (same_type_itself u))

-- a test that is true exactly at one type
one_type : (u : Ty) (test : Ty → Bool) → ((t : Ty) → test t ≡ true → t ≡ u) → test u ≡ true → (t : Ty) → same_type t u ≡ test t
one_type u test only here t = same_from_decides {P = t ≡ u} (same_type t u) (test t)
    (same_type_equal t u, λ e. subst (λ (x : Ty). same_type t x ≡ true) e (same_type_itself t))
    (only t, λ e. subst (λ (x : Ty). test x ≡ true) (sym e) here)

pub same_with_bool : (t : Ty) → same_type t ty.Bool ≡ is_bool t
same_with_bool = one_type ty.Bool is_bool bool_is (ap is_bool_layer ty.outs-Bool)

pub same_with_raw : (t : Ty) → same_type t ty.Raw ≡ is_raw t
same_with_raw = one_type ty.Raw is_raw raw_is (ap is_raw_layer ty.outs-Raw)

pub same_with_fn_ptr : (t : Ty) → same_type t ty.FnPtr ≡ is_fn_ptr t
same_with_fn_ptr = one_type ty.FnPtr is_fn_ptr fn_ptr_is (ap is_fn_ptr_layer ty.outs-FnPtr)

pub same_with_int : (t : Ty) (i : IntType) → (same_type t (ty.Int i) ≡ true) ↔ (integer_of t ≡ Some i)
same_with_int t i = (
  λ e. ap integer_of (same_type_equal t (ty.Int i) e) ∙ ap integer_in (ty.outs-Int i),
  λ e. subst (λ (x : Ty). same_type x (ty.Int i) ≡ true) (sym (integer_is t i e)) (same_type_itself (ty.Int i)),
)
