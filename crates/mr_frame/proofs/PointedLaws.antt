-- The pointer that an expression gives.
use Rattle.mr_frame.proofs.Common.{◌≡◌, Bool, true, false, refl, sym, ap, ◌∙◌, subst, same_Some, ◌||◌, Value, Ty, Pointer, Memory, Val, out-Val, has_shape, Outcome, Went, on, is_fn_ptr, is_raw, fn_ptr_is, raw_is, ShapedAs, env_surround, valued, Surround, pointer_in, Seen, Env, pointed, there_or_broken, ValueAt, is_address}
use Rattle.mr_value.proofs.ShapeLaws.{shape_fn_ptr, shape_raw}
use Rattle.mr_value.specs.declared.val.Val.TheVariants as val

pub pointed_is : (m : Memory) (s : Surround) (v : Value) (seen : Seen) → pointed m s v seen ≡ on (valued m s v seen) (λ x last. there_or_broken (pointer_in (out-Val x)) last)
unfolding pointed
pointed_is m s v seen = refl

-- a value of such a type is a pointer
pub pointer_there : (t : Ty) (x : Val) → is_address t ≡ true → has_shape t x ≡ true → (p : Pointer) × (x ≡ val.Ptr p)
pointer_there t x e h = by_test (is_raw t) refl
  where
    by_test : (b : Bool) → is_raw t ≡ b → (p : Pointer) × (x ≡ val.Ptr p)
    by_test true k = let made = shape_raw x (subst (λ (u : Ty). has_shape u x ≡ true) (raw_is t k) h) in (made.pointer, made.is)
    by_test false k =
        let is : is_fn_ptr t ≡ true = ap (λ b. b || is_fn_ptr t) (sym k) ∙ e in
        let made = shape_fn_ptr x (subst (λ (u : Ty). has_shape u x ≡ true) (fn_ptr_is t is) h) in
        (made.pointer, made.is)

-- what was found of a value that stands in a function
pub pointer_found : (e : Env) (v : Value) (x : Val) (h : ValueAt e v is_address) → ShapedAs (env_surround e) v x → (p : Pointer) × (x ≡ val.Ptr p)
pointer_found e v x h s =
    let same = same_Some h.ty s.ty (sym h.is ∙ s.is) in
    pointer_there s.ty x (subst (λ (u : Ty). is_address u ≡ true) same h.fits) s.shape

pub pointed_known : (m : Memory) (s : Surround) (v : Value) (seen last : Seen) (x : Val) (p : Pointer) → valued m s v seen ≡ Went x last → x ≡ val.Ptr p → pointed m s v seen ≡ Went p last
pointed_known m s v seen last x p went is =
    pointed_is m s v seen
    ∙ ap (λ (o : Outcome Val Seen). on o (λ y l. there_or_broken (pointer_in (out-Val y)) l)) went
    ∙ ap (λ (y : Val). there_or_broken (pointer_in (out-Val y)) last) is
    ∙ ap (λ l. there_or_broken (pointer_in l) last) (val.outs-Ptr p)

pub ruleset pointed_laws = (pointed_is)
