-- The accesses of a step, by edition: those of its evaluation are among them, they stay the same while the allocations
-- that it freed are there, and they keep the machine's limits.
use Rattle.mr_exchange.proofs.Common.{◌≡◌, ℕ, zero, suc, ◌+◌, ◌≤◌, ◌^◌, refl, sym, ap, ◌∙◌, List, [], ◌∷◌, ◌++◌, All, arith, Bool, true, false, Option, None, Some, Contains, length, ◌==◌, if◌then◌else◌, ne_eqb, All-append, All-cons, All-nil, Contains-append_left, Access, AllocId, Tally, IsAccessOk, Footprint, Allocation, Memory, Notes, accesses_in, event_of, foot_of, MemoryFacts}
use Rattle.std.proofs.Common.{ap₂}
use Rattle.mr_mem.specs.Memory.{extent_of}
use Rattle.mr_start.specs.PlanLimits.{ArePlaced, IsPlaced}
use Rattle.mr_start.specs.PlanNotes.{whole_store, whole_stores}
use Rattle.std.specs.FinMap as fin
use Rattle.mr_exchange.proofs.ElementTests.{here, there}

-- what evaluation accessed is accessed
pub evaluated : (edition : ℕ) (m : Memory) (n : Tally) (a : Access) → Contains n.accesses a → Contains (accesses_in edition m n) a
unfolding accesses_in
evaluated edition m n a h = by (edition == 2)
  where
    by : (second : Bool) → Contains (if second then n.accesses ++ whole_stores m n.freed else n.accesses) a
    by true = Contains-append_left n.accesses (whole_stores m n.freed) a h
    by false = h

-- each of these allocations lies where it lay
abbrev pub LieThere : Memory → Memory → List AllocId → Type 0
LieThere m m' ids = (id : AllocId) → Contains ids id → extent_of (fin.get m id) ≡ extent_of (fin.get m' id)

stores_same : (m m' : Memory) (ids : List AllocId) → LieThere m m' ids → whole_stores m ids ≡ whole_stores m' ids
stores_same m m' [] h = refl
stores_same m m' (id ∷ ids) h =
    ap₂ (λ (a b : List Access). a ++ b) (ap whole_store (h id (here id ids))) (stores_same m m' ids (λ k c. h k (there id ids k c)))

-- A FOOTPRINT, where what was freed lies there
pub foot_same : (edition : ℕ) (m m' : Memory) (n : Notes) → LieThere m m' n.tally.freed → foot_of edition m n ≡ foot_of edition m' n
unfolding accesses_in
foot_same edition m m' n h = ap with_stores (stores_same m m' n.tally.freed h)
  where
    with_stores : List Access → Footprint
    with_stores stores = record {
      thread = n.tally.thread;
      accesses = if edition == 2 then n.tally.accesses ++ stores else n.tally.accesses;
      allocated = n.tally.made;
      freed = n.tally.freed;
      touched = n.tally.touched;
      event = event_of n.events;
      ended = n.ended;
      woken = n.woken;
    }

-- what a step freed lies behind another step where it lay
pub freed_there : {m0 m m' : Memory} {t c t' c' : ℕ} {n n' : Tally} → MemoryFacts m0 t c m n → MemoryFacts m t' c' m' n' → LieThere m m' n.freed
freed_there f g id h =
    let d = f.freed id h in
    let s = g.stays id d.alloc d.there in
    ap extent_of d.there ∙ (λ i. Some (s.lasting.addr i, s.lasting.size i)) ∙ sym (ap extent_of s.there)

-- ---- limits

-- a store of all bytes
sized_ok : (addr len : ℕ) → addr + len ≤ 2 ^ 64 → All IsAccessOk (whole_store (Some (addr, len)))
sized_ok addr zero h = All-nil IsAccessOk
sized_ok addr (suc n) h =
    rw (ne_eqb (suc n) 0 (λ e. cc))
    (All-cons IsAccessOk (record { store = true; atomic = false; addr = addr; len = suc n }) [] (omega arith, h) (All-nil IsAccessOk))

store_ok : (o : Option Allocation) → ((a : Allocation) → o ≡ Some a → IsPlaced a) → All IsAccessOk (whole_store (extent_of o))
store_ok None h = All-nil IsAccessOk
store_ok (Some a) h =
    let p = h a refl in
    let in_it = p.0 in
    let lies = p.1 in
    sized_ok a.addr (length a.bytes) (omega arith)

stores_ok : (m : Memory) (ids : List AllocId) → ArePlaced m → All IsAccessOk (whole_stores m ids)
stores_ok m [] placed = All-nil IsAccessOk
stores_ok m (id ∷ ids) placed =
    All-append IsAccessOk (whole_store (extent_of (fin.get m id))) (whole_stores m ids) (store_ok (fin.get m id) (placed id)) (stores_ok m ids placed)

-- THE ACCESSES OF A STEP keep the limits, where those of its evaluation do and each allocation lies among the addresses
pub all_ok : (edition : ℕ) (m : Memory) (n : Tally) → ArePlaced m → All IsAccessOk n.accesses → All IsAccessOk (accesses_in edition m n)
unfolding accesses_in
all_ok edition m n placed h = by (edition == 2)
  where
    by : (second : Bool) → All IsAccessOk (if second then n.accesses ++ whole_stores m n.freed else n.accesses)
    by true = All-append IsAccessOk n.accesses (whole_stores m n.freed) h (stores_ok m n.freed placed)
    by false = h
