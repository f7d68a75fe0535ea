-- Scripts that are never ill-formed, by their parts.
use Rattle.mr_eval.proofs.Common.{◌≡◌, [], ◌∷◌, Option, None, Some, Result, Ok, Err, Bool, true, false, length, refl, sym, subst, ◌^◌, ◌&&◌, ℤ, pos, unsigned_abs, if◌then◌else◌, int_eq, plainly, Stop, Ty, Pointer, Reason, size_of, TypeOk, Val, decoded, Bytes, has_shape, Done, Undefined, Ask, ◌>>=◌, Check, ReadScript, moved, Targets, loading, meant, or_undefined, referred, referring, targets_of, or_ill_formed, or_reason, Good, IsSafe, any_result}
use Rattle.std.specs.Prelude.{◌+ℤ◌, int_le, int_lt}
use Rattle.mr_value.proofs.DecodeShape.{decoded_has_shape}
use Rattle.mr_base.specs.declared.reason.Reason.TheVariants.{OffsetOverflow}
use Rattle.mr_base.proofs.ScriptRuns.{safe_bind}
use Rattle.mr_eval.specs.Moves.{at_address, lower, moved_to}

-- ---- parts

pub safe_then : {A B : Type 0} (P : A → Type 0) (P' : B → Type 0) (m : ReadScript A) (f : A → ReadScript B) → IsSafe P m → ((x : A) → P x → IsSafe P' (f x)) → IsSafe P' (m >>= f)
safe_then P P' m f h k = safe_bind Good P P' m f h k

pub safe_if : {A : Type 0} (P : A → Type 0) (b : Bool) (m n : ReadScript A) → IsSafe P m → IsSafe P n → IsSafe P (if b then m else n)
safe_if P true m n h k = h
safe_if P false m n h k = k

pub safe_found : {A : Type 0} (P : A → Type 0) (o : Option A) (x : A) → o ≡ Some x → P x → IsSafe P (or_ill_formed o)
safe_found P o x e h = subst (λ (u : Option _). IsSafe P (or_ill_formed u)) (sym e) h

pub safe_option : {A : Type 0} (P : A → Type 0) (r : Stop) (o : Option A) → ((x : A) → o ≡ Some x → P x) → IsSafe P (or_undefined r o)
safe_option P r None h = tt
safe_option P r (Some x) h = h x refl

pub safe_result : {A : Type 0} (P : A → Type 0) (r : Result A Reason) → ((x : A) → r ≡ Ok x → P x) → IsSafe P (or_reason r)
safe_result P (Ok x) h = h x refl
safe_result P (Err e) h = tt

-- ---- pointers

moved_to_safe : (p : Pointer) (n to : ℤ) → IsSafe any_result (moved_to p n to)
moved_to_safe p n to = by_test (int_le (pos 0) to && int_lt to (pos (2 ^ 64)))
  where
    by_test : (b : Bool) → IsSafe any_result (if b then Ask (Check (lower p n to) (unsigned_abs n)) (λ _. Done (at_address p (unsigned_abs to))) else Undefined (plainly OffsetOverflow))
    by_test true = λ u g. tt
    by_test false = tt

pub moved_safe : (p : Pointer) (n : ℤ) → IsSafe any_result (moved p n)
moved_safe p n = safe_if any_result (int_eq n (pos 0)) (Done p) (moved_to p n (pos p.addr +ℤ n)) tt (moved_to_safe p n (pos p.addr +ℤ n))

-- ---- values that bytes mean

pub referring_safe : (targets : Targets) → IsSafe any_result (referring targets)
referring_safe [] = tt
referring_safe (t ∷ targets) = λ u g. referring_safe targets

pub referred_safe : (P : Val → Type 0) (t : Ty) (v : Val) → P v → IsSafe P (referred t v)
referred_safe P t v h = safe_then any_result P (referring (targets_of t v)) _ (referring_safe (targets_of t v)) (λ u k. h)

pub meant_safe : (r : Stop) (t : Ty) (bytes : Bytes) → TypeOk t → length bytes ≡ size_of t → IsSafe (λ v. has_shape t v ≡ true) (meant r t bytes)
meant_safe r t bytes ok sized =
    safe_then (λ v. has_shape t v ≡ true) (λ v. has_shape t v ≡ true) (or_undefined r (decoded t bytes)) (referred t)
    (safe_option (λ v. has_shape t v ≡ true) r (decoded t bytes) (λ v e. decoded_has_shape t ok bytes sized v e))
    (λ v h. referred_safe (λ w. has_shape t w ≡ true) t v h)

pub loading_safe : (t : Ty) (p : Pointer) → TypeOk t → IsSafe (λ v. has_shape t v ≡ true) (loading t p)
unfolding loading
loading_safe t p ok = λ bytes sized. meant_safe _ t bytes ok sized
