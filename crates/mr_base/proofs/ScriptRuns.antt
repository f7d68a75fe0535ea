-- Laws of runs.
use Rattle.std.proofs.Common.{◌≡◌, refl, sym, ◌∙◌}
use Rattle.mr_base.specs.Script.{Script, Done, Undefined, IllFormed, Ask, ◌>>=◌, Outcome, Went, Refused, Broken, on, run, Safe}

-- going on twice is going on once
pub on_on : {A B C S : Type 0} (o : Outcome A S) (f : A → S → Outcome B S) (g : B → S → Outcome C S) → on (on o f) g ≡ on o (λ a s. on (f a s) g)
on_on (Went a s) f g = refl
on_on (Refused r) f g = refl
on_on Broken f g = refl

pub on_same : {A B S : Type 0} (o : Outcome A S) (f g : A → S → Outcome B S) → ((a : A) (s : S) → f a s ≡ g a s) → on o f ≡ on o g
on_same (Went a s) f g e = e a s
on_same (Refused r) f g e = refl
on_same Broken f g e = refl

module _ {Q : Type 0} {R : Q → Type 0} {S : Type 0} (answer : (q : Q) → S → Outcome (R q) S) where
  -- a script after another
  pub run_bind : {A B : Type 0} (m : Script Q R A) (f : A → Script Q R B) (s : S) → run answer (m >>= f) s ≡ on (run answer m s) (λ a s'. run answer (f a) s')
  run_bind (Done a) f s = refl
  run_bind (Undefined r) f s = refl
  run_bind IllFormed f s = refl
  run_bind (Ask q k) f s = on_same (answer q s) _ _ (λ x s'. run_bind (k x) f s') ∙ sym (on_on (answer q s) _ _)

-- a safe script, then one that is safe after it
pub safe_bind : {Q : Type 0} {R : Q → Type 0} {A B : Type 0} (good : (q : Q) → R q → Type 0) (P : A → Type 0) (P' : B → Type 0) (m : Script Q R A) (f : A → Script Q R B) → Safe good P m → ((a : A) → P a → Safe good P' (f a)) → Safe good P' (m >>= f)
safe_bind good P P' (Done a) f h k = k a h
safe_bind good P P' (Undefined r) f h k = tt
safe_bind good P P' IllFormed f h k = h
safe_bind good P P' (Ask q c) f h k = λ x g. safe_bind good P P' (c x) f (h x g) k
