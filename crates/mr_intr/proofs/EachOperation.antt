-- What holds of the script of each intrinsic holds of every operation.
use Rattle.mr_intr.proofs.Common.{List, [], ◌∷◌, Option, Some, Intrinsic, Ty, Val, Operation, acquire, allocate, assume, atomic_load, atomic_store, compare_exchange, create_lock, deallocate, fetch, join, operation, print, release}
use Rattle.mr_base.specs.Script.{IllFormed}
use Rattle.mr_ast.specs.declared.program.Intrinsic.TheVariants as intrinsic

-- it holds of each script, and where an intrinsic has no rule
pub record OfEach (P : Operation → Type 0) : Type 0 where
  pub assumes : (v : Val) → P (assume v)
  pub prints : (types : List Ty) (args : List Val) → P (print types args)
  pub allocates : (size align : Val) → P (allocate size align)
  pub deallocates : (what size align : Val) → P (deallocate what size align)
  pub joins : (thread : Val) → P (join thread)
  pub creates : P create_lock
  pub acquires : (lock : Val) → P (acquire lock)
  pub releases : (lock : Val) → P (release lock)
  pub stores : (at : Val) (t : Ty) (v : Val) → P (atomic_store at t v)
  pub loads : (at : Val) (t : Ty) → P (atomic_load at t)
  pub exchanges : (at : Val) (t : Ty) (old new : Val) → P (compare_exchange at t old new)
  pub fetches : (op : Intrinsic) (at : Val) (t : Ty) (v : Val) → P (fetch op at t v)
  pub broken : P IllFormed

pub of_operation : (P : Operation → Type 0) → OfEach P → (op : Intrinsic) (args : List Val) (types : List Ty) (result : Option Ty)
    → P (operation op args types result)
of_operation P h intrinsic.Assume (v ∷ []) types result = h.assumes v
of_operation P h intrinsic.Print args types result = h.prints types args
of_operation P h intrinsic.Allocate (size ∷ align ∷ []) types result = h.allocates size align
of_operation P h intrinsic.Deallocate (what ∷ size ∷ align ∷ []) types result = h.deallocates what size align
of_operation P h intrinsic.Join (thread ∷ []) types result = h.joins thread
of_operation P h intrinsic.CreateLock [] types result = h.creates
of_operation P h intrinsic.Acquire (lock ∷ []) types result = h.acquires lock
of_operation P h intrinsic.Release (lock ∷ []) types result = h.releases lock
of_operation P h intrinsic.AtomicStore (at ∷ v ∷ []) (p ∷ t ∷ []) result = h.stores at t v
of_operation P h intrinsic.AtomicLoad (at ∷ []) types (Some t) = h.loads at t
of_operation P h intrinsic.CompareExchange (at ∷ old ∷ new ∷ []) types (Some t) = h.exchanges at t old new
of_operation P h intrinsic.FetchAdd (at ∷ v ∷ []) types (Some t) = h.fetches intrinsic.FetchAdd at t v
of_operation P h intrinsic.FetchSub (at ∷ v ∷ []) types (Some t) = h.fetches intrinsic.FetchSub at t v
of_operation P h intrinsic.FetchAnd (at ∷ v ∷ []) types (Some t) = h.fetches intrinsic.FetchAnd at t v
of_operation P h intrinsic.FetchOr (at ∷ v ∷ []) types (Some t) = h.fetches intrinsic.FetchOr at t v
of_operation P h intrinsic.FetchXor (at ∷ v ∷ []) types (Some t) = h.fetches intrinsic.FetchXor at t v
of_operation P h _ args types result = h.broken
