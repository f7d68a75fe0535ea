-- What an intrinsic needs before it acts.
use Rattle.mr_intr.proofs.Common.{◌≡◌, ◌≢◌, ℕ, refl, subst, sym, ap, ◌∙◌, List, [], ◌∷◌, Option, Some, None, Bool, true, false, Result, Ok, Err, slice_get, Intrinsic, Ty, Pointer, Reason, Release, Memory, Address, Waiter, Val, plainly, speaks, Tables, any_waits, holding, CreatesNothing, Plan, Notes, Shared, StepScript, Waiting, answer, telling, IsFetch, CanTake, Fits, IsOperation, shared_of, allocation_fault, Operation, found, operation, releasing}
use Rattle.mr_intr.specs.Needs.{IsPlanned}
use Rattle.mr_intr.specs.declared.need.Creation.TheVariants.{Lock, Nothing}
use Rattle.mr_intr.specs.declared.need.Needs.{Needs}
use Rattle.mr_ast.specs.declared.program.Intrinsic.TheVariants as intrinsic
use Rattle.mr_ast.specs.declared.types.Ty.TheVariants as ty
use Rattle.mr_value.specs.declared.val.Val.TheVariants as val
use Rattle.mr_base.specs.Script.{Done, Undefined, IllFormed, Ask as Asks, ◌>>=◌, Outcome, Refused, Went, on, run}
use Rattle.mr_intr.proofs.Arguments.{acquire_takes, assume_takes, atomic_load_takes, atomic_store_takes, create_lock_takes, deallocate_takes, exchange_takes, fetch_takes, join_takes}
use Rattle.mr_intr.proofs.HeapLaws.{allocation_allowed, allocation_planned, allocation_unplanned}
use Rattle.mr_intr.proofs.LockLaws.{release_read}
use Rattle.mr_intr.proofs.OperatedLaws.{int_number}
use Rattle.mr_intr.proofs.OwnReasons.{allocation_own, hold_own}

-- ---- an address

pub allocation_asks : (args : List Val) (size align : ℕ) (can : CanTake intrinsic.Allocate args) → slice_get args 0 ≡ Some (val.Int size) → slice_get args 1 ≡ Some (val.Int align)
    → (types : List Ty) (place : Option Ty) (w : Shared × Notes) (needs : Needs) → needs ≡ record { creates = Nothing; ask = Some (Address size align) } → allocation_fault size align ≡ None
    → IsPlanned needs (run answer (operation intrinsic.Allocate args types place) w)
allocation_asks args size align can first second types place w needs is none =
    let allowed = allocation_allowed size align none in
    subst (λ (n : Needs). IsPlanned n (run answer (operation intrinsic.Allocate args types place) w)) (sym is)
    (record { plan = _; left = w; went = ap (λ (o : Operation). run answer o w) (allocation_planned args size align can first second types place ∙ allowed.is); creates = refl; asks = refl })

-- a size or an alignment for which there can be none
pub allocation_stops : (args : List Val) (size align : ℕ) (can : CanTake intrinsic.Allocate args) → slice_get args 0 ≡ Some (val.Int size) → slice_get args 1 ≡ Some (val.Int align)
    → (types : List Ty) (place : Option Ty) (w : Shared × Notes) (r : Reason) → allocation_fault size align ≡ Some r
    → (run answer (operation intrinsic.Allocate args types place) w ≡ Refused (plainly r)) × (speaks r ≡ false)
allocation_stops args size align can first second types place w r is = (
  ap (λ (o : Operation). run answer o w) (allocation_planned args size align can first second types place) ∙ allocation_unplanned size align w r is,
  allocation_own size align r is,
)

-- ---- a waiter

module _ (args : List Val) (can : CanTake intrinsic.Release args) (l : ℕ) (read : slice_get args 0 ≡ Some (val.Int l)) (types : List Ty) (place : Option Ty) (m : Memory) (n : Notes) (x : Tables) (thread : ℕ) (same : n.tally.thread ≡ thread) where
  abbrev asked : Result Bool Reason → Outcome (Plan (StepScript (Option Val))) (Shared × Notes)
  asked r = on (telling (Release l) r (shared_of m x) n) (λ b v. Went (releasing l b) v)

  released_plan : run answer (operation intrinsic.Release args types place) (shared_of m x, n) ≡ asked (holding thread (slice_get x.holders l) (any_waits l x))
  released_plan =
      ap (λ (vs : List Val). run answer (operation intrinsic.Release vs types place) (shared_of m x, n)) (release_read args l read can)
      ∙ (λ i. run answer (found (int_number l i) >>= λ k. Asks (Waiting k) Done >>= λ waits. Done (releasing k waits)) (shared_of m x, n))
      ∙ ap (λ t. asked (holding t (slice_get x.holders l) (any_waits l x))) same

  pub release_asks : (needs : Needs) → needs ≡ record { creates = Nothing; ask = Some (Waiter l) } → holding thread (slice_get x.holders l) (any_waits l x) ≡ Ok true
      → IsPlanned needs (run answer (operation intrinsic.Release args types place) (shared_of m x, n))
  release_asks needs is h =
      subst (λ (k : Needs). IsPlanned k (run answer (operation intrinsic.Release args types place) (shared_of m x, n))) (sym is)
      (record { plan = _; left = _; went = released_plan ∙ ap asked h; creates = refl; asks = refl })

  pub release_asks_nothing : (needs : Needs) → needs ≡ record { creates = Nothing; ask = None } → holding thread (slice_get x.holders l) (any_waits l x) ≡ Ok false
      → IsPlanned needs (run answer (operation intrinsic.Release args types place) (shared_of m x, n))
  release_asks_nothing needs is h =
      subst (λ (k : Needs). IsPlanned k (run answer (operation intrinsic.Release args types place) (shared_of m x, n))) (sym is)
      (record { plan = _; left = _; went = released_plan ∙ ap asked h; creates = refl; asks = refl })

  -- a lock that the thread doesn't hold
  pub release_stops : (r : Reason) → holding thread (slice_get x.holders l) (any_waits l x) ≡ Err r
      → (run answer (operation intrinsic.Release args types place) (shared_of m x, n) ≡ Refused (plainly r)) × (speaks r ≡ false)
  release_stops r h = (released_plan ∙ ap asked h, hold_own thread (slice_get x.holders l) (any_waits l x) r h)

-- ---- nothing

-- a plan is made at once, which creates nothing and asks for nothing
abbrev IsInstant : Operation → Type 0
IsInstant (Done plan) = (plan.creates ≡ CreatesNothing) × (plan.asks ≡ [])
IsInstant (Undefined r) = ⊥
IsInstant IllFormed = ⊥
IsInstant (Asks q k) = ⊥

instant_planned : (o : Operation) (w : Shared × Notes) (needs : Needs) → needs ≡ record { creates = Nothing; ask = None } → IsInstant o → IsPlanned needs (run answer o w)
instant_planned (Done plan) w needs is h =
    subst (λ (k : Needs). IsPlanned k (Went plan w)) (sym is) (record { plan = plan; left = w; went = refl; creates = h.0; asks = h.1 })
instant_planned (Undefined r) w needs is h = absurd h
instant_planned IllFormed w needs is h = absurd h
instant_planned (Asks q k) w needs is h = absurd h

abbrev InstantWith : Intrinsic → List Val → List Ty → Option Ty → Type 0
InstantWith op args types place = IsInstant (operation op args types place)

instant_fetch : (op : Intrinsic) (args : List Val) (types : List Ty) (place : Option Ty) → IsFetch op → Fits op args types place
    → ((p : Pointer) (k : ℕ) (t : Ty) → InstantWith op (val.Ptr p ∷ val.Int k ∷ []) types (Some t)) → InstantWith op args types place
instant_fetch op args types place of fit h =
    let takes = fetch_takes op args types place of fit in
    subst (λ (vs : List Val). InstantWith op vs types place) (sym takes.is) (subst (λ (o : Option Ty). InstantWith op (val.Ptr takes.pointer ∷ val.Int takes.by ∷ []) types o) (sym takes.gives) (h takes.pointer takes.by (ty.Int takes.int)))

is_instant : (op : Intrinsic) (args : List Val) (types : List Ty) (place : Option Ty) → IsOperation op → (op ≢ intrinsic.Allocate) → (op ≢ intrinsic.Release) → (op ≢ intrinsic.CreateLock) → Fits op args types place
    → InstantWith op args types place
is_instant intrinsic.Assume args types place of a r l fit = subst (λ (vs : List Val). InstantWith intrinsic.Assume vs types place) (sym (assume_takes args types place fit).is) (refl, refl)
is_instant intrinsic.Print args types place of a r l fit = (refl, refl)
is_instant intrinsic.Allocate args types place of a r l fit = absurd (a refl)
is_instant intrinsic.Deallocate args types place of a r l fit = subst (λ (vs : List Val). InstantWith intrinsic.Deallocate vs types place) (sym (deallocate_takes args types place fit).is) (refl, refl)
is_instant intrinsic.Spawn args types place of a r l fit = absurd of
is_instant intrinsic.Join args types place of a r l fit = subst (λ (vs : List Val). InstantWith intrinsic.Join vs types place) (sym (join_takes args types place fit).is) (refl, refl)
is_instant intrinsic.CreateLock args types place of a r l fit = absurd (l refl)
is_instant intrinsic.Acquire args types place of a r l fit = subst (λ (vs : List Val). InstantWith intrinsic.Acquire vs types place) (sym (acquire_takes args types place fit).is) (refl, refl)
is_instant intrinsic.Release args types place of a r l fit = absurd (r refl)
is_instant intrinsic.AtomicStore args types place of a r l fit =
    let takes = atomic_store_takes args types place fit in
    subst (λ (vs : List Val). InstantWith intrinsic.AtomicStore vs types place) (sym takes.is) (subst (λ (ts : List Ty). InstantWith intrinsic.AtomicStore (val.Ptr takes.pointer ∷ val.Int takes.bits ∷ []) ts place) (sym takes.typed) (refl, refl))
is_instant intrinsic.AtomicLoad args types place of a r l fit =
    let takes = atomic_load_takes args types place fit in
    subst (λ (vs : List Val). InstantWith intrinsic.AtomicLoad vs types place) (sym takes.is) (subst (λ (o : Option Ty). InstantWith intrinsic.AtomicLoad (val.Ptr takes.pointer ∷ []) types o) (sym takes.gives) (refl, refl))
is_instant intrinsic.CompareExchange args types place of a r l fit =
    let takes = exchange_takes args types place fit in
    subst (λ (vs : List Val). InstantWith intrinsic.CompareExchange vs types place) (sym takes.is)
    (subst (λ (o : Option Ty). InstantWith intrinsic.CompareExchange (val.Ptr takes.pointer ∷ val.Int takes.expected ∷ val.Int takes.new ∷ []) types o) (sym takes.gives) (refl, refl))
is_instant intrinsic.FetchAdd args types place of a r l fit = instant_fetch intrinsic.FetchAdd args types place tt fit (λ p k t. (refl, refl))
is_instant intrinsic.FetchSub args types place of a r l fit = instant_fetch intrinsic.FetchSub args types place tt fit (λ p k t. (refl, refl))
is_instant intrinsic.FetchAnd args types place of a r l fit = instant_fetch intrinsic.FetchAnd args types place tt fit (λ p k t. (refl, refl))
is_instant intrinsic.FetchOr args types place of a r l fit = instant_fetch intrinsic.FetchOr args types place tt fit (λ p k t. (refl, refl))
is_instant intrinsic.FetchXor args types place of a r l fit = instant_fetch intrinsic.FetchXor args types place tt fit (λ p k t. (refl, refl))
is_instant intrinsic.Payload args types place of a r l fit = absurd of

pub needs_nothing : (op : Intrinsic) (args : List Val) (types : List Ty) (place : Option Ty) (w : Shared × Notes) (needs : Needs) → needs ≡ record { creates = Nothing; ask = None }
    → IsOperation op → (op ≢ intrinsic.Allocate) → (op ≢ intrinsic.Release) → (op ≢ intrinsic.CreateLock) → Fits op args types place → IsPlanned needs (run answer (operation op args types place) w)
needs_nothing op args types place w needs is of a r l fit = instant_planned (operation op args types place) w needs is (is_instant op args types place of a r l fit)

-- a new lock
pub needs_lock : (args : List Val) (types : List Ty) (place : Option Ty) (w : Shared × Notes) → Fits intrinsic.CreateLock args types place
    → IsPlanned (record { creates = Lock; ask = None }) (run answer (operation intrinsic.CreateLock args types place) w)
needs_lock args types place w fit =
    record { plan = _; left = w; went = ap (λ (vs : List Val). run answer (operation intrinsic.CreateLock vs types place) w) (create_lock_takes args types place fit).is; creates = refl; asks = refl }
