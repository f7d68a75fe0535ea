-- The swap law for scripts, over any state, from what each query reads and changes.
use Rattle.std.proofs.Common.{◌≡◌, refl, sym, ap, ◌∙◌, subst, ◌⊎◌, inl, inr}
use Rattle.mr_base.specs.Script.{Script, Done, Undefined, IllFormed, Ask, Outcome, Went, Refused, Broken, on, run}

-- where a run went on, it had gone before
pub record GoesOn {A B S T : Type 0} (o : Outcome A S) (f : A → S → Outcome B T) (b : B) (t : T) : Type 0 where
  pub value : A
  pub mid : S
  pub first : o ≡ Went value mid
  pub rest : f value mid ≡ Went b t

pub goes_on : {A B S T : Type 0} (o : Outcome A S) (f : A → S → Outcome B T) (b : B) (t : T) → on o f ≡ Went b t → GoesOn o f b t
goes_on (Went a m) f b s h = record { value = a; mid = m; first = refl; rest = h }
goes_on (Refused r) f b s h = cc
goes_on Broken f b s h = cc

pub same_value : {A S : Type 0} {a b : A} {s t : S} → Went a s ≡ Went b t → a ≡ b
same_value h = cc

pub same_state : {A S : Type 0} {a b : A} {s t : S} → Went a s ≡ Went b t → s ≡ t
same_state h = cc

-- S is what is shared, and P what is the step's own: what it has noted so far among it.
-- look tells what stands at a place of S; reads and writes tell from the notes at which places a run read and wrote.
-- inv is what the step may rely on while it runs, as that its thread is enabled.
module _ (Q : Type 0) (R : Q → Type 0) (S P : Type 0) (answer : (q : Q) → S × P → Outcome (R q) (S × P)) (Obs : Type 0) (V : Obs → Type 0) (look : S → (o : Obs) → V o) (reads writes : P → Obs → Type 0) (inv : S → P → Type 0) where
  -- from s to t and from s' to t': what stands at o is as before in both, or is now the same and was written
  abbrev pub Moves : S → S → S → S → P → Obs → Type 0
  Moves s t s' t' p o = ((look t o ≡ look s o) × (look t' o ≡ look s' o)) ⊎ ((look t o ≡ look t' o) × writes p o)

  abbrev pub Agree : S → S → P → Type 0
  Agree s s' p = (o : Obs) → reads p o → look s o ≡ look s' o

  -- from a state that agrees, the same happens
  pub record Follows {A : Type 0} (go : S × P → Outcome A (S × P)) (s s' t : S) (p p' : P) (x : A) : Type 0 where
    pub after : S
    pub goes : go (s', p) ≡ Went x (after, p')
    pub moves : (o : Obs) → Moves s t s' after p' o

  -- notes only grow
  pub record Grows (p p' : P) : Type 0 where
    pub reads_grow : (o : Obs) → reads p o → reads p' o
    pub writes_grow : (o : Obs) → writes p o → writes p' o

  abbrev pub IsLocal : Type 0
  IsLocal = (q : Q) (s s' t : S) (p p' : P) (x : R q) → inv s p → inv s' p → answer q (s, p) ≡ Went x (t, p') → Agree s s' p' → Follows (answer q) s s' t p p' x

  abbrev pub IsKept : Type 0
  IsKept = (q : Q) (s t : S) (p p' : P) (x : R q) → inv s p → answer q (s, p) ≡ Went x (t, p') → inv t p'

  abbrev pub IsGrowing : Type 0
  IsGrowing = (q : Q) (s t : S) (p p' : P) (x : R q) → answer q (s, p) ≡ Went x (t, p') → Grows p p'

  module _ (local : IsLocal) (growing : IsGrowing) (kept : IsKept) where
    pub grows : {A : Type 0} (m : Script Q R A) (s t : S) (p p' : P) (x : A) → run answer m (s, p) ≡ Went x (t, p') → Grows p p'
    grows (Done a) s t p p' x h = subst (λ n. Grows p n) (ap (λ w. w.1) (same_state h)) (record { reads_grow = λ o r. r; writes_grow = λ o r. r })
    grows (Undefined r) s t p p' x h = cc
    grows IllFormed s t p p' x h = cc
    grows (Ask q k) s t p p' x h =
        let g = goes_on _ _ _ _ h in
        let a = growing q s g.mid.0 p g.mid.1 g.value g.first in
        let b = grows (k g.value) g.mid.0 t g.mid.1 p' x g.rest in
        record { reads_grow = λ o r. b.reads_grow o (a.reads_grow o r); writes_grow = λ o r. b.writes_grow o (a.writes_grow o r) }

    -- one move after another
    chain : (s t u s' t' u' : S) (p p' : P) (o : Obs) → (writes p o → writes p' o) → Moves s t s' t' p o → Moves t u t' u' p' o → Moves s u s' u' p' o
    chain s t u s' t' u' p p' o more a (inr d) = inr d
    chain s t u s' t' u' p p' o more (inl b) (inl d) = inl (d.0 ∙ b.0, d.1 ∙ b.1)
    chain s t u s' t' u' p p' o more (inr b) (inl d) = inr (d.0 ∙ b.0 ∙ sym d.1, more b.1)

    -- what agreed agrees after the same answer
    still : (s t s' t' : S) (p : P) (o : Obs) → look s o ≡ look s' o → Moves s t s' t' p o → look t o ≡ look t' o
    still s t s' t' p o e (inl m) = m.0 ∙ e ∙ sym m.1
    still s t s' t' p o e (inr m) = m.0

    -- a script does the same from a state that agrees where it reads
    pub follows : {A : Type 0} (m : Script Q R A) (s s' t : S) (p p' : P) (x : A) → inv s p → inv s' p → run answer m (s, p) ≡ Went x (t, p') → Agree s s' p' → Follows (run answer m) s s' t p p' x
    follows (Done a) s s' t p p' x i i' h agree =
        record {
          after = s';
          goes = λ j. Went (same_value h j) (s', (same_state h j).1);
          moves = λ o. inl (ap (λ w. look w.0 o) (sym (same_state h)), refl);
        }
    follows (Undefined r) s s' t p p' x i i' h agree = cc
    follows IllFormed s s' t p p' x i i' h agree = cc
    follows (Ask q k) s s' t p p' x i i' h agree =
        let g = goes_on _ _ _ _ h in
        let more = grows (k g.value) g.mid.0 t g.mid.1 p' x g.rest in
        let a = local q s s' g.mid.0 p g.mid.1 g.value i i' g.first (λ o r. agree o (more.reads_grow o r)) in
        let b = follows (k g.value) g.mid.0 a.after t g.mid.1 p' x (kept q s g.mid.0 p g.mid.1 g.value i g.first) (kept q s' a.after p g.mid.1 g.value i' a.goes) g.rest (λ o r. still s g.mid.0 s' a.after g.mid.1 o (agree o r) (a.moves o)) in
        record {
          after = b.after;
          goes = ap (λ w. on w (λ y w'. run answer (k y) w')) a.goes ∙ b.goes;
          moves = λ o. chain s g.mid.0 t s' a.after b.after g.mid.1 p' o (more.writes_grow o) (a.moves o) (b.moves o);
        }

    -- a script changes only what it writes
    pub frame : {A : Type 0} (m : Script Q R A) (s t : S) (p p' : P) (x : A) → inv s p → run answer m (s, p) ≡ Went x (t, p') → (o : Obs) → (look t o ≡ look s o) ⊎ writes p' o
    frame m s t p p' x i h o =
        elim ((follows m s s t p p' x i i h (λ o r. refl)).moves o) [ inl e ↦ inl e.0 | inr e ↦ inr e.1 ]

    -- neither reads or writes what the other writes
    pub record Apart (p p' : P) : Type 0 where
      pub first_reads : (o : Obs) → reads p o → writes p' o → ⊥
      pub second_reads : (o : Obs) → reads p' o → writes p o → ⊥
      pub both_write : (o : Obs) → writes p o → writes p' o → ⊥

    pub record Swapped {A B : Type 0} (m : Script Q R A) (n : Script Q R B) (s u : S) (p p' q q' : P) (a : A) (b : B) : Type 0 where
      pub between : S
      pub second_first : run answer n (s, q) ≡ Went b (between, q')
      pub first_second : run answer m (between, p) ≡ Went a (u, p')

    -- THE SWAP LAW OF SCRIPTS
    pub swap : ((s t : S) → ((o : Obs) → look s o ≡ look t o) → s ≡ t)
        → {A B : Type 0} (m : Script Q R A) (n : Script Q R B) (s t u : S) (p p' q q' : P) (a : A) (b : B)
        → inv s p → inv t q → inv s q → ((v : S) → run answer n (s, q) ≡ Went b (v, q') → inv v p)
        → run answer m (s, p) ≡ Went a (t, p') → run answer n (t, q) ≡ Went b (u, q') → Apart p' q'
        → Swapped m n s u p p' q q' a b
    swap ext m n s t u p p' q q' a b im in_ is again hm hn apart =
        let still_there : (o : Obs) → reads q' o → look t o ≡ look s o =
        λ o r. elim (frame m s t p p' a im hm o) [ inl e ↦ e | inr w ↦ absurd (apart.second_reads o r w) ] in
        let g = follows n t s u q q' b in_ is hn still_there in
        let same : (o : Obs) → reads p' o → look s o ≡ look g.after o =
        λ o r. elim (g.moves o) [ inl e ↦ sym e.1 | inr w ↦ absurd (apart.first_reads o r w.1) ] in
        let f = follows m s g.after t p p' a im (again g.after g.goes) hm same in
        let joined : (o : Obs) → look f.after o ≡ look u o =
        λ o. elim (g.moves o) [
          | inl e ↦ elim (f.moves o) [ inl d ↦ d.1 ∙ e.1 ∙ sym d.0 ∙ sym e.0 | inr d ↦ sym d.0 ∙ sym e.0 ]
          | inr e ↦ elim (f.moves o) [ inl d ↦ d.1 ∙ sym e.0 | inr d ↦ absurd (apart.both_write o d.1 e.1) ]
        ] in
        record {
          between = g.after;
          second_first = g.goes;
          first_second = f.goes ∙ ap (λ v. Went a (v, p')) (ext f.after u joined);
        }
