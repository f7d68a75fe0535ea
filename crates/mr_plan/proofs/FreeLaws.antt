-- The end of an allocation: what it needs of memory, and that the header tells it all.
use Rattle.mr_plan.proofs.Common.{◌≡◌, ℕ, refl, ap, ◌∙◌, List, [], ◌∷◌, Option, Some, None, Ok, Bool, true, false, length, ◌==◌, AllocId, Kind, Pointer, Reason, DeadAllocation, Allocation, Memory, free_fault, freed, kind_number}
use Rattle.mr_base.specs.declared.reason.Reason.TheVariants.{FreeAddress, FreeAlign, FreeKind, FreeSize}
use Rattle.mr_mem.specs.Memory.{first_failed, freed_of, refusal, unless, without_life}
use Rattle.mr_base.proofs.Comparisons.{eq_from}
use Rattle.std.specs.FinMap as fin
use Rattle.mr_plan.proofs.Headers.{Like}

abbrev pub dead : Allocation → Allocation
dead a = record a { live = false }

-- what is freed, and that nothing is against it
pub record Frees (m : Memory) (p : Pointer) (kind : Kind) (size align : ℕ) (r : AllocId × Memory) : Type 0 where
  pub id : AllocId
  pub alloc : Allocation
  pub prov : p.prov ≡ Some id
  pub there : fin.get m id ≡ Some alloc
  pub allowed : free_fault alloc p.addr kind size align ≡ None
  pub is : (id, fin.insert m id (dead alloc)) ≡ r

unless_ok : {A : Type 0} (r : Option Reason) (x y : A) → unless r x ≡ Ok y → (r ≡ None) × (x ≡ y)
unless_ok None x y h = (refl, cc)
unless_ok (Some e) x y h = cc

frees_one : (m : Memory) (p : Pointer) (kind : Kind) (size align : ℕ) (r : AllocId × Memory) (id : AllocId) (o : Option Allocation)
    → p.prov ≡ Some id → fin.get m id ≡ o → unless {A = AllocId × Memory} (refusal o p.addr kind size align) (id, without_life m id o) ≡ Ok r → Frees m p kind size align r
frees_one m p kind size align r id None e there h = cc
frees_one m p kind size align r id (Some a) e there h =
    let u = unless_ok _ _ _ h in
    record { id = id; alloc = a; prov = e; there = there; allowed = u.0; is = u.1 }

frees_of : (m : Memory) (p : Pointer) (kind : Kind) (size align : ℕ) (r : AllocId × Memory) (o : Option AllocId)
    → p.prov ≡ o → freed_of m o p.addr kind size align ≡ Ok r → Frees m p kind size align r
frees_of m p kind size align r None e h = cc
frees_of m p kind size align r (Some id) e h = frees_one m p kind size align r id (fin.get m id) e refl h

pub frees : (m : Memory) (p : Pointer) (kind : Kind) (size align : ℕ) (r : AllocId × Memory) → freed m p kind size align ≡ Ok r → Frees m p kind size align r
unfolding freed
frees m p kind size align r h = frees_of m p kind size align r p.prov refl h

-- the same is against the end of allocations that are alike
pub free_fault_like : (a b : Allocation) (addr : ℕ) (kind : Kind) (size align : ℕ) → Like a b → free_fault a addr kind size align ≡ free_fault b addr kind size align
unfolding free_fault
free_fault_like a b addr kind size align l =
    λ i. first_failed (
    (l.live i, DeadAllocation)
    ∷ (addr == l.lasting.addr i, FreeAddress)
    ∷ (kind_number kind == kind_number (l.lasting.kind i), FreeKind)
    ∷ (size == l.lasting.size i, FreeSize)
    ∷ (align == l.lasting.align i, FreeAlign)
    ∷ [])

pub frees_too : (m : Memory) (p : Pointer) (kind : Kind) (size align : ℕ) (id : AllocId) (a : Allocation)
    → p.prov ≡ Some id → fin.get m id ≡ Some a → free_fault a p.addr kind size align ≡ None → freed m p kind size align ≡ Ok (id, fin.insert m id (dead a))
unfolding freed
frees_too m p kind size align id a e there allowed =
    ap (λ o. freed_of m o p.addr kind size align) e
    ∙ ap (λ f. unless (refusal f p.addr kind size align) (id, without_life m id f)) there
    ∙ ap (λ r. unless r (id, fin.insert m id (dead a))) allowed

pub dead_like : (a b : Allocation) → Like a b → Like (dead a) (dead b)
dead_like a b l = record {
  lasting = record { addr = l.lasting.addr; span = l.lasting.span; align = l.lasting.align; kind = l.lasting.kind; size = l.lasting.size };
  live = refl;
}

first_passes : (b : Bool) (r : Reason) (ts : List (Bool × Reason)) → first_failed ((b, r) ∷ ts) ≡ None → b ≡ true
first_passes true r ts h = refl
first_passes false r ts h = cc

-- only what is live is ended
pub free_live : (a : Allocation) (addr : ℕ) (kind : Kind) (size align : ℕ) → free_fault a addr kind size align ≡ None → a.live ≡ true
unfolding free_fault
free_live a addr kind size align h =
    first_passes a.live DeadAllocation ((addr == a.addr, FreeAddress) ∷ (kind_number kind == kind_number a.kind, FreeKind) ∷ (size == length a.bytes, FreeSize) ∷ (align == a.align, FreeAlign) ∷ []) h

rest_passes : (b : Bool) (r : Reason) (ts : List (Bool × Reason)) → first_failed ((b, r) ∷ ts) ≡ None → first_failed ts ≡ None
rest_passes true r ts h = h
rest_passes false r ts h = absurd (cc)

-- and what is of the kind
pub free_kind : (a : Allocation) (addr : ℕ) (kind : Kind) (size align : ℕ) → free_fault a addr kind size align ≡ None → kind_number kind ≡ kind_number a.kind
unfolding free_fault
free_kind a addr kind size align h =
    let sized : List (Bool × Reason) = (size == length a.bytes, FreeSize) ∷ (align == a.align, FreeAlign) ∷ [] in
    let kinded : List (Bool × Reason) = (kind_number kind == kind_number a.kind, FreeKind) ∷ sized in
    let placed : List (Bool × Reason) = (addr == a.addr, FreeAddress) ∷ kinded in
    eq_from (kind_number kind) (kind_number a.kind)
    (first_passes (kind_number kind == kind_number a.kind) FreeKind sized (rest_passes (addr == a.addr) FreeAddress kinded (rest_passes a.live DeadAllocation placed h)))
