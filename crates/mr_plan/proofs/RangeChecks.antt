-- What the range check needs of memory, and what is noted of it; and that a memory with the same headers passes it too.
use Rattle.mr_plan.proofs.Common.{◌≡◌, ◌≢◌, ℕ, ◌+◌, ◌<◌, ◌≤◌, refl, sym, ap, ◌∙◌, subst, [], ◌∷◌, inl, inr, Option, Some, None, Result, Ok, Err, Bool, true, false, cond, length, arith, ◌==◌, if◌then◌else◌, Any, Contains, cases_eq, le-leb, Contains-push, AllocId, Pointer, Reason, DeadAllocation, Allocation, Memory, aligned, found, inside, is_multiple, then_give, accessing, touching, Covers, HeaderOf, StoresAt, header_of, in_memory}
use Rattle.std.proofs.Common.{◌&&◌, nat_le}
use Rattle.std.proofs.lemmas.Bool.{and_from, and_parts, eq-eqb, leb-true, ne_eqb}
use Rattle.std.proofs.lemmas.List.Quantifiers.{Any-push}
use Rattle.mr_base.specs.declared.reason.Reason.TheVariants.{Misaligned, OutOfBounds}
use Rattle.mr_eval.specs.Reads.{ids}
use Rattle.std.specs.FinMap as fin
use Rattle.mr_plan.proofs.Headers.{Like, like_one}

-- ---- one memory

-- a range that lies in a live allocation
pub record InRange (a : Allocation) (addr len : ℕ) : Type 0 where
  pub live : a.live ≡ true
  pub from : a.addr ≤ addr
  pub to : addr + len ≤ a.addr + length a.bytes

-- a pointer's range that lies in the allocation of its provenance
pub record Within (m : Memory) (p : Pointer) (len : ℕ) (id : AllocId) (a : Allocation) : Type 0 where
  pub prov : p.prov ≡ Some id
  pub there : fin.get m id ≡ Some a
  pub range : InRange a p.addr len

in_range_like : (a b : Allocation) (addr len : ℕ) → Like a b → InRange a addr len → InRange b addr len
in_range_like a b addr len l r =
    let from = r.from in
    let to = r.to in
    let same_addr = l.lasting.addr in
    let same_size = l.lasting.size in
    record { live = sym l.live ∙ r.live; from = omega arith; to = omega arith }

-- the test of the range, and what the tests of life and range give
abbrev pub range_test : Allocation → ℕ → ℕ → Bool
range_test a addr len = nat_le a.addr addr && nat_le (addr + len) (a.addr + length a.bytes)

abbrev pub by_tests : (a : Allocation) (live in_it : Bool) → Result Allocation Reason
by_tests a live in_it = if live then (if in_it then Ok a else Err OutOfBounds) else Err DeadAllocation

-- both tests pass where an allocation is given
tests_pass : (a b : Allocation) (live in_it : Bool) → by_tests a live in_it ≡ Ok b → (live ≡ true) × (in_it ≡ true) × (a ≡ b)
tests_pass a b true true h = (refl, refl, cc)
tests_pass a b true false h = cc
tests_pass a b false in_it h = cc

-- what is found where the check passes, and that the check passes then
inside_ok : (o : Option Allocation) (addr len : ℕ) (a : Allocation) → inside o addr len ≡ Ok a → (o ≡ Some a) × InRange a addr len
inside_ok None addr len a h = cc
inside_ok (Some b) addr len a h =
    let t = tests_pass b a b.live (range_test b addr len) h in
    let r = and_parts _ _ t.1 in
    (ap Some t.2, subst (λ (w : Allocation). InRange w addr len) t.2 (record { live = t.0; from = leb-true _ _ r.0; to = leb-true _ _ r.1 }))

inside_passes : (a : Allocation) (addr len : ℕ) → InRange a addr len → inside (Some a) addr len ≡ Ok a
inside_passes a addr len r =
    ap (λ b. by_tests a b (range_test a addr len)) r.live
    ∙ ap (λ b. by_tests a true b) (and_from _ _ (le-leb _ _ r.from) (le-leb _ _ r.to))

-- what is given of a pointer's range: one thing where it is empty, and else one by the allocation
abbrev pub ranged : {X : Type 0} → Memory → Pointer → ℕ → X → (Allocation → X) → Result X Reason
ranged m p len none full = if len == 0 then Ok none else then_give (inside (found m p.prov) p.addr len) full

-- by which of the two a thing was given
pub data Gave {X : Type 0} (m : Memory) (p : Pointer) (len : ℕ) (none : X) (full : Allocation → X) (x : X) : Type 0 where
  empty : len ≡ 0 → none ≡ x → Gave m p len none full x
  filled : (id : AllocId) (a : Allocation) → len ≢ 0 → Within m p len id a → full a ≡ x → Gave m p len none full x

given : {X : Type 0} (r : Result Allocation Reason) (full : Allocation → X) (x : X) → then_give r full ≡ Ok x → (a : Allocation) × (r ≡ Ok a) × (full a ≡ x)
given (Ok a) full x h = (a, refl, cc)
given (Err e) full x h = cc

found_some : (m : Memory) (o : Option AllocId) (a : Allocation) → found m o ≡ Some a → (id : AllocId) × (o ≡ Some id) × (fin.get m id ≡ Some a)
found_some m None a h = cc
found_some m (Some id) a h = (id, refl, h)

same_ok : {X : Type 0} {x y : X} → ◌≡◌ {A = Result X Reason} (Ok x) (Ok y) → x ≡ y
same_ok h = cc

module _ {X : Type 0} (m : Memory) (p : Pointer) (len : ℕ) (none : X) (full : Allocation → X) where
  pub ranged_empty : len ≡ 0 → ranged m p len none full ≡ Ok none
  ranged_empty z = ap (λ b. cond b (Ok none) (then_give (inside (found m p.prov) p.addr len) full)) (eq-eqb len 0 z)

  ranged_filled : len ≢ 0 → ranged m p len none full ≡ then_give (inside (found m p.prov) p.addr len) full
  ranged_filled n = ap (λ b. cond b (Ok none) (then_give (inside (found m p.prov) p.addr len) full)) (ne_eqb len 0 n)

  pub ranged_within : (id : AllocId) (a : Allocation) → len ≢ 0 → Within m p len id a → ranged m p len none full ≡ Ok (full a)
  ranged_within id a n w =
      ranged_filled n
      ∙ ap (λ o. then_give (inside (found m o) p.addr len) full) w.prov
      ∙ ap (λ o. then_give (inside o p.addr len) full) w.there
      ∙ ap (λ r. then_give r full) (inside_passes a p.addr len w.range)

  pub gave : (x : X) → ranged m p len none full ≡ Ok x → Gave m p len none full x
  gave x h = elim (cases_eq len 0) [
    | inl z ↦ empty z (same_ok (sym (ranged_empty z) ∙ h))
    | inr n ↦
        let g = given _ full x (sym (ranged_filled n) ∙ h) in
        let i = inside_ok (found m p.prov) p.addr len g.0 g.1 in
        let f = found_some m p.prov g.0 i.0 in
        filled f.0 g.0 n (record { prov = f.1; there = f.2; range = i.1 }) g.2
  ]

-- alignment comes first
aligned_by : {X : Type 0} (b : Bool) (r : Result X Reason) (x : X) → cond b r (Err Misaligned) ≡ Ok x → (b ≡ true) × (r ≡ Ok x)
aligned_by true r x h = (refl, h)
aligned_by false r x h = cc

pub aligned_ok : {X : Type 0} (p : Pointer) (align : ℕ) (r : Result X Reason) (x : X) → aligned p align r ≡ Ok x → (is_multiple p.addr align ≡ true) × (r ≡ Ok x)
aligned_ok p align r x h = aligned_by (is_multiple p.addr align) r x h

pub aligned_passes : {X : Type 0} (p : Pointer) (align : ℕ) (r : Result X Reason) → is_multiple p.addr align ≡ true → aligned p align r ≡ r
aligned_passes p align r e = ap (λ b. cond b r (Err Misaligned)) e

-- ---- what is noted of it
pub touching_one : (p : Pointer) (len : ℕ) (id : AllocId) → len ≢ 0 → p.prov ≡ Some id → touching p len ≡ id ∷ []
touching_one p len id n e = ap (λ b. cond b [] (ids p.prov)) (ne_eqb len 0 n) ∙ ap ids e

pub touching_none : (p : Pointer) (len : ℕ) → len ≡ 0 → touching p len ≡ []
touching_none p len z = ap (λ b. cond b [] (ids p.prov)) (eq-eqb len 0 z)

pub touches : (p : Pointer) (len : ℕ) (id : AllocId) → len ≢ 0 → p.prov ≡ Some id → Contains (touching p len) id
touches p len id n e = subst (λ l. Contains l id) (sym (touching_one p len id n e)) (Contains-push [] id)

pub accessing_one : (store atomic : Bool) (p : Pointer) (len : ℕ) → len ≢ 0 → accessing store atomic p len ≡ record { store = store; atomic = atomic; addr = p.addr; len = len } ∷ []
accessing_one store atomic p len n = ap (λ b. cond b [] (record { store = store; atomic = atomic; addr = p.addr; len = len } ∷ [])) (ne_eqb len 0 n)

pub accessing_none : (store atomic : Bool) (p : Pointer) (len : ℕ) → len ≡ 0 → accessing store atomic p len ≡ []
accessing_none store atomic p len z = ap (λ b. cond b [] (record { store = store; atomic = atomic; addr = p.addr; len = len } ∷ [])) (eq-eqb len 0 z)

pub accesses_range : (store atomic : Bool) (p : Pointer) (len x : ℕ) → p.addr ≤ x → x < p.addr + len → Any (Covers x) (accessing store atomic p len)
accesses_range store atomic p len x low high =
    subst (Any (Covers x)) (sym (accessing_one store atomic p len (λ z. omega arith)))
    (Any-push (Covers x) [] _ (record { from = low; to = high }))

pub stores_range : (atomic : Bool) (p : Pointer) (len x : ℕ) → p.addr ≤ x → x < p.addr + len → Any (StoresAt x) (accessing true atomic p len)
stores_range atomic p len x low high =
    subst (Any (StoresAt x)) (sym (accessing_one true atomic p len (λ z. omega arith)))
    (Any-push (StoresAt x) [] _ (record { covers = record { from = low; to = high }; store = refl }))

-- ---- two memories whose headers are the same where the check touches

-- what both give of a pointer's range: the same allocation of both, which is alike
pub data Both {X : Type 0} (m m' : Memory) (p : Pointer) (len : ℕ) (none none' : X) (full full' : Allocation → X) (x x' : X) : Type 0 where
  both_empty : len ≡ 0 → none ≡ x → none' ≡ x' → Both m m' p len none none' full full' x x'
  both_filled : (id : AllocId) (a b : Allocation) → len ≢ 0 → Within m p len id a → Within m' p len id b → Like a b → full a ≡ x → full' b ≡ x' → Both m m' p len none none' full full' x x'

-- a second memory gives something too
pub record GivesToo {X : Type 0} (m m' : Memory) (p : Pointer) (len : ℕ) (none none' : X) (full full' : Allocation → X) (x : X) : Type 0 where
  pub other : X
  pub gives : ranged m' p len none' full' ≡ Ok other
  pub both : Both m m' p len none none' full full' x other

pub gives_too : {X : Type 0} (m m' : Memory) (p : Pointer) (len : ℕ) (none none' : X) (full full' : Allocation → X) (x : X)
    → ranged m p len none full ≡ Ok x → ((id : AllocId) → Contains (touching p len) id → in_memory m (HeaderOf id) ≡ in_memory m' (HeaderOf id))
    → GivesToo m m' p len none none' full full' x
gives_too m m' p len none none' full full' x h agree = by_gift (gave m p len none full x h)
  where
    by_gift : Gave m p len none full x → GivesToo m m' p len none none' full full' x
    by_gift (empty z e) = record { other = none'; gives = ranged_empty m' p len none' full' z; both = both_empty z e refl }
    by_gift (filled id a n w e) =
        let l = like_one a (fin.get m' id) (ap header_of (sym w.there) ∙ agree id (touches p len id n w.prov)) in
        let w' : Within m' p len id l.other =
        record { prov = w.prov; there = l.is; range = in_range_like a l.other p.addr len l.like w.range } in
        record { other = full' l.other; gives = ranged_within m' p len none' full' id l.other n w'; both = both_filled id a l.other n w w' l.like e refl }
