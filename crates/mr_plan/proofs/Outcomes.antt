-- What holds of where a run went on, which has a rule.
use Rattle.mr_plan.proofs.Common.{subst, sym, ◌>>=◌, Outcome, Went, Refused, Broken, on, run}
use Rattle.mr_base.specs.Script.{Script}
use Rattle.mr_base.proofs.ScriptRuns.{run_bind}

-- there is a rule, and where it goes on this holds of the result and the state
abbrev pub After : {A S : Type 0} → (A → S → Type 0) → Outcome A S → Type 0
After P (Went x s) = P x s
After P (Refused r) = Unit {0}
After P Broken = ⊥

pub after_on : {A B S T : Type 0} (P : A → S → Type 0) (Q : B → T → Type 0) (o : Outcome A S) (f : A → S → Outcome B T)
    → After P o → ((x : A) (s : S) → P x s → After Q (f x s)) → After Q (on o f)
after_on P Q (Went x s) f h k = k x s h
after_on P Q (Refused r) f h k = tt
after_on P Q Broken f h k = h

-- a script, and one behind it
pub after_then : {D : Type 0} {R : D → Type 0} {S A B : Type 0} (answer : (q : D) → S → Outcome (R q) S) (P : A → S → Type 0) (Q : B → S → Type 0) (m : Script D R A) (f : A → Script D R B) (s : S)
    → After P (run answer m s) → ((x : A) (v : S) → P x v → After Q (run answer (f x) v)) → After Q (run answer (m >>= f) s)
after_then answer P Q m f s h k = subst (After Q) (sym (run_bind answer m f s)) (after_on P Q (run answer m s) (λ x v. run answer (f x) v) h k)

-- what follows from it
pub after_weaker : {A S : Type 0} (P Q : A → S → Type 0) (o : Outcome A S) → After P o → ((x : A) (s : S) → P x s → Q x s) → After Q o
after_weaker P Q (Went x s) h k = k x s h
after_weaker P Q (Refused r) h k = tt
after_weaker P Q Broken h k = h
