-- What the code takes apart of an integer or a bool.
use Rattle.mr_eval.proofs.Common.{◌≡◌, ℕ, ◌*◌, ◌^◌, ◌<◌, Bool, true, Option, None, Some, sym, ap, ◌∙◌, subst, ◌||◌, is_some, IntType, Ty, out-Ty, Ty-F, Variant, int_size, Val, out-Val, Val-F, number_of_bits, has_shape, shape_bool, shape_int, is_bool, is_scalar_number, integer_of, bool_is, integer_is}
use Rattle.mr_eval.specs.declared.scalars.Scalar.TheVariants.{Number, Truth}
use Rattle.mr_eval.specs.Scalars.{scalar_as, scalar_layer}
use Rattle.mr_ast.specs.declared.types.Ty.TheVariants as ty
use Rattle.mr_value.specs.declared.val.Val.TheVariants as val
use Rattle.mr_eval.proofs.NumberLaws.{int_fits}

pub int_value : (t : Ty) (v : Val) (i : IntType) → integer_of t ≡ Some i → has_shape t v ≡ true → (n : ℕ) × (v ≡ val.Int n)
int_value t v i is h = let made = shape_int i v (subst (λ (u : Ty). has_shape u v ≡ true) (integer_is t i is) h) in (made.bits, made.is)

pub int_small : (t : Ty) (v : Val) (i : IntType) (n : ℕ) → integer_of t ≡ Some i → has_shape t v ≡ true → v ≡ val.Int n → n < 2 ^ (8 * int_size i)
int_small t v i n is h e = int_fits i n (subst (λ (u : Ty). has_shape u (val.Int n) ≡ true) (integer_is t i is) (subst (λ (x : Val). has_shape t x ≡ true) e h))

truth_of : (t : Ty) → integer_of t ≡ None → is_scalar_number t ≡ true → is_bool t ≡ true
truth_of t none scalar = sym (ap (λ (o : Option IntType). is_some o || is_bool t) none) ∙ scalar

pub truth_value : (t : Ty) (v : Val) → is_bool t ≡ true → has_shape t v ≡ true → (b : Bool) × (v ≡ val.Bool b)
truth_value t v is h = let made = shape_bool v (subst (λ (u : Ty). has_shape u v ≡ true) (bool_is t is) h) in (made.truth, made.is)

pub bool_value : (t : Ty) (v : Val) → integer_of t ≡ None → is_scalar_number t ≡ true → has_shape t v ≡ true → (b : Bool) × (v ≡ val.Bool b)
bool_value t v none scalar h = truth_value t v (truth_of t none scalar) h

-- a layer told of a value and of its type
told_at : {B : Type 0} (told : Ty-F Ty Variant → Val-F Val → Option B) (t : Ty) (v : Val) (l : Ty-F Ty Variant) (x : Val-F Val) → out-Ty t ≡ l → out-Val v ≡ x → told (out-Ty t) (out-Val v) ≡ told l x
told_at told t v l x e k = ap (λ m. told m (out-Val v)) e ∙ ap (told l) k

pub scalar_int : (t : Ty) (v : Val) (i : IntType) (n : ℕ) → integer_of t ≡ Some i → v ≡ val.Int n → scalar_as t v ≡ Some (Number (number_of_bits i n))
scalar_int t v i n is e = told_at scalar_layer t v _ _ (ap out-Ty (integer_is t i is) ∙ ty.outs-Int i) (ap out-Val e ∙ val.outs-Int n)

pub scalar_bool : (t : Ty) (v : Val) (b : Bool) → integer_of t ≡ None → is_scalar_number t ≡ true → v ≡ val.Bool b → scalar_as t v ≡ Some (Truth b)
scalar_bool t v b none scalar e = told_at scalar_layer t v _ _ (ap out-Ty (bool_is t (truth_of t none scalar)) ∙ ty.outs-Bool) (ap out-Val e ∙ val.outs-Bool b)

pub ruleset scalar_laws = (int_value, int_small, bool_value, scalar_int, scalar_bool)
