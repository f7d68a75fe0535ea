-- Scripts: what a step asks of a state that it shares, one query after another, and what it does with each answer.
use Rattle.mr_base.specs.Stops.{Stop}

-- A script with queries Q, of which q is answered by an R q, and the result A.
pub data Script (Q : Type 0) (R : Q → Type 0) (A : Type 0) : Type 0 where
  Done : A → Script Q R A
  Undefined : Stop → Script Q R A
  IllFormed : Script Q R A
  Ask : (q : Q) → (R q → Script Q R A) → Script Q R A

-- a script, and behind it another that is given what the first one came to
infixl 10 ◌>>=◌
abbrev pub ◌>>=◌ : {Q : Type 0} {R : Q → Type 0} {A B : Type 0} → Script Q R A → (A → Script Q R B) → Script Q R B
Done a >>= f = f a
Undefined r >>= f = Undefined r
IllFormed >>= f = IllFormed
Ask q k >>= f = Ask q (λ x. k x >>= f)

-- What a run comes to: a result and the state after it, or a stop.
pub data Outcome (A S : Type 0) : Type 0 where
  Went : A → S → Outcome A S
  Refused : Stop → Outcome A S
  Broken : Outcome A S

-- the run goes on where it went
abbrev pub on : {A B S T : Type 0} → Outcome A S → (A → S → Outcome B T) → Outcome B T
on (Went a s) f = f a s
on (Refused r) f = Refused r
on Broken f = Broken

-- The run of a script over a state, of which answer says what each query gives and leaves.
abbrev pub run : {Q : Type 0} {R : Q → Type 0} {S A : Type 0} → ((q : Q) → S → Outcome (R q) S) → Script Q R A → S
    → Outcome A S
run answer (Done a) s = Went a s
run answer (Undefined r) s = Refused r
run answer IllFormed s = Broken
run answer (Ask q k) s = on (answer q s) (λ x s'. run answer (k x) s')

-- What each answer leaves for the script to prove, so that it never comes to IllFormed, and ends with P.
abbrev pub Safe : {Q : Type 0} {R : Q → Type 0} {A : Type 0} → ((q : Q) → R q → Type 0) → (A → Type 0) → Script Q R A
    → Type 0
Safe good P (Done a) = P a
Safe good P (Undefined r) = Unit {0}
Safe good P IllFormed = ⊥
Safe {R = R} good P (Ask q k) = (x : R q) → good q x → Safe good P (k x)
