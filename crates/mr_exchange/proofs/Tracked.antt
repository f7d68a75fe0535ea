-- What a script notes, whatever it is answered, from its form alone.
use Rattle.mr_exchange.proofs.Common.{◌≡◌, Done, Undefined, IllFormed, Ask, ◌>>=◌, Outcome, Went, run, goes_on}
use Rattle.mr_base.specs.Script.{Script}
use Rattle.mr_exchange.proofs.PlanWentLaws.{at_outcome}

-- Marks are what is kept of notes, and mark tells what a query with its reply adds to them. Whatever is answered, the script, which begins with these
-- marks, ends with P of its result and of the marks behind it.
abbrev pub Tracks : {Q : Type 0} {R : Q → Type 0} {E A : Type 0} → ((q : Q) → R q → E → E) → (A → E → Type 0) → E → Script Q R A → Type 0
Tracks mark P e (Done a) = P a e
Tracks mark P e (Undefined r) = Unit {0}
Tracks mark P e IllFormed = Unit {0}
Tracks {R = R} mark P e (Ask q k) = (x : R q) → Tracks mark P (mark q x e) (k x)

module _ {Q : Type 0} {R : Q → Type 0} {E : Type 0} (mark : (q : Q) → R q → E → E) where
  -- what follows from it
  pub tracks_map : {A : Type 0} (P P' : A → E → Type 0) (e : E) (m : Script Q R A) → ((a : A) (v : E) → P a v → P' a v) → Tracks mark P e m → Tracks mark P' e m
  tracks_map P P' e (Done a) k h = k a e h
  tracks_map P P' e (Undefined r) k h = tt
  tracks_map P P' e IllFormed k h = tt
  tracks_map P P' e (Ask q c) k h = λ x. tracks_map P P' (mark q x e) (c x) k (h x)

  -- a script, and one behind it
  pub tracks_then : {A B : Type 0} (P : A → E → Type 0) (P' : B → E → Type 0) (e : E) (m : Script Q R A) (f : A → Script Q R B)
      → Tracks mark P e m → ((a : A) (v : E) → P a v → Tracks mark P' v (f a)) → Tracks mark P' e (m >>= f)
  tracks_then P P' e (Done a) f h k = k a e h
  tracks_then P P' e (Undefined r) f h k = tt
  tracks_then P P' e IllFormed f h k = tt
  tracks_then P P' e (Ask q c) f h k = λ x. tracks_then P P' (mark q x e) (c x) f (h x) k

  -- states that have marks, to which each answer adds what mark tells
  module _ {S : Type 0} (answer : (q : Q) → S → Outcome (R q) S) (Marked : S → E → Type 0) (marking : (q : Q) (s s' : S) (x : R q) (e : E) → answer q s ≡ Went x s' → Marked s e → Marked s' (mark q x e)) where
    -- WHAT IS TRACKED HOLDS OF EACH RUN
    pub tracked : {A : Type 0} (P : A → E → Type 0) (m : Script Q R A) (s s' : S) (x : A) (e : E) → Marked s e → Tracks mark P e m → run answer m s ≡ Went x s' → (v : E) × Marked s' v × P x v
    tracked P (Done a) s s' x e is h k = at_outcome k (λ y w. (v : E) × Marked w v × P y v) (e, is, h)
    tracked P (Undefined r) s s' x e is h k = absurd (cc)
    tracked P IllFormed s s' x e is h k = absurd (cc)
    tracked P (Ask q c) s s' x e is h k =
        let g = goes_on _ _ _ _ k in
        tracked P (c g.value) g.mid s' x (mark q g.value e) (marking q s g.mid g.value e g.first is) (h g.value) g.rest
