-- What an intrinsic comes to on arguments that are known, and what the code that asks memory alone leaves.
use Rattle.mr_intr.proofs.Common.{◌≡◌, ℕ, refl, subst, sym, ap, List, [], ◌∷◌, Option, Some, None, Bool, Err, Stop, stop_with, Intrinsic, Ty, Heap, Pointer, Val, out-Val, Done, Ask, ◌>>=◌, Outcome, Went, Refused, on, run, Free, memory_answer, World, world_of, Scene, Tables, Notes, OfMemory, Shared, answer, in_shared, Does, IsDone, Prints, begun, notes_in, operated, allocating, assuming, found, number_in, truth_in, Effect, pointer_in}
use Rattle.mr_base.specs.declared.thread.Event.TheVariants.{Quiet}
use Rattle.mr_eval.specs.MemoryQueries.{MemoryQuery, MemoryReply}
use Rattle.mr_mem.specs.declared.fault.Fault.{Fault}
use Rattle.mr_eval.specs.Environment.{Tells}
use Rattle.mr_ast.specs.declared.program.Intrinsic.TheVariants as intrinsic
use Rattle.mr_value.specs.declared.val.Val.TheVariants as val
use Rattle.mr_mem.specs.declared.fault.Fault.TheVariants as fault

-- ---- arguments that are known

pub int_number : (n : ℕ) → number_in (out-Val (val.Int n)) ≡ Some n
int_number n = ap number_in (val.outs-Int n)

pub ptr_pointer : (p : Pointer) → pointer_in (out-Val (val.Ptr p)) ≡ Some p
ptr_pointer p = ap pointer_in (val.outs-Ptr p)

pub bool_truth : (b : Bool) → truth_in (out-Val (val.Bool b)) ≡ Some b
bool_truth b = ap truth_in (val.outs-Bool b)

-- ---- what asks memory alone

-- one query to memory, and what its reply is as a result
abbrev pub asked : (q : MemoryQuery) → (MemoryReply q → Option Val) → Shared × Notes → Outcome (Option Val) (Shared × Notes)
asked q give w = on (on (memory_answer q (w.0.memory, w.1.tally)) (in_shared w)) (λ x u. Went (give x) u)

abbrev pub quiet : Option Val → Effect
quiet v = record { value = v; event = Quiet; woken = None }

module _ (op : Intrinsic) (q : MemoryQuery) (give : MemoryReply q → Option Val) (s : Scene) (x : Tables) where
  abbrev comes : Outcome (MemoryReply q) World → Outcome (Option Val) (Shared × Notes)
  comes o = on (on o (in_shared (begun s x))) (λ y u. Went (give y) u)

  pub memory_went : (new : Scene) (out : List ℕ) (y : MemoryReply q) → memory_answer q (world_of s) ≡ Went y (world_of new) → Prints op [] out out → IsDone op (quiet (give y)) (asked q give (begun s x)) new x out out
  memory_went new out y h prints = record { notes = notes_in new; went = ap comes h; tally = refl; event = refl; going = refl; woken = refl; printed = prints }

  pub memory_refused : (r : Stop) → memory_answer q (world_of s) ≡ Refused r → asked q give (begun s x) ≡ Refused r
  memory_refused r h = ap comes h

  -- what the code returned of it
  pub memory_fault : (new : Scene) (out : List ℕ) (f : Fault) → Tells {X = MemoryReply q} (Err f) (memory_answer q (world_of s)) (world_of new) new.notes.refused → Does op (Err f) (asked q give (begun s x)) new x out out
  memory_fault new out (fault.Undefined r) h = (memory_refused (stop_with new.notes.refused r) h, refl)
  memory_fault new out fault.Memory h = tt

-- the same effect, or fault, of the same run
module _ (op : Intrinsic) (s : Scene) (x : Tables) (old new : List ℕ) (o o' : Outcome (Option Val) (Shared × Notes)) (same : o ≡ o') where
  pub done_as : (e e' : Effect) → e ≡ e' → IsDone op e' o' s x old new → IsDone op e o s x old new
  done_as e e' is h = subst (λ f. IsDone op f o s x old new) (sym is) (subst (λ (r : Outcome (Option Val) (Shared × Notes)). IsDone op e' r s x old new) (sym same) h)

  pub fault_as : (f : Fault) → Does op (Err f) o' s x old new → Does op (Err f) o s x old new
  fault_as f h = subst (λ (r : Outcome (Option Val) (Shared × Notes)). Does op (Err f) r s x old new) (sym same) h

-- ---- by intrinsic

module _ (types : List Ty) (place : Option Ty) (picks : List ℕ) (w : Shared × Notes) where
  pub operated_assume : (b : Bool) → operated intrinsic.Assume (val.Bool b ∷ []) types place picks w ≡ run answer (assuming b) w
  unfolding operated
  operated_assume b = λ i. run answer (found (bool_truth b i) >>= assuming) w

  pub operated_allocate : (size align : ℕ)
      → operated intrinsic.Allocate (val.Int size ∷ val.Int align ∷ []) types place picks w ≡ run answer (allocating size align >>= λ plan. plan.go picks) w
  unfolding operated
  operated_allocate size align =
      λ i. run answer ((found (int_number size i) >>= λ s. found (int_number align i) >>= λ a. allocating s a) >>= λ plan. plan.go picks) w

  pub operated_deallocate : (p : Pointer) (size align : ℕ)
      → operated intrinsic.Deallocate (val.Ptr p ∷ val.Int size ∷ val.Int align ∷ []) types place picks w ≡ asked (Free p Heap size align) (λ u. None) w
  unfolding operated
  operated_deallocate p size align =
      λ i. run answer (found (ptr_pointer p i) >>= λ at. found (int_number size i) >>= λ n. found (int_number align i) >>= λ k. Ask (OfMemory (Free at Heap n k)) (λ u. Done None)) w
