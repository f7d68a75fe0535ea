-- Each intrinsic makes the allocation that it asked for, notes one event at most, and asks for a waiter only of a lock that it looked at.
use Rattle.mr_exchange.proofs.Common.{ℕ, refl, arith, List, [], ◌∷◌, Bool, true, false, Option, Some, None, ◌-◌, ◌^◌, if◌then◌else◌, nat_lt, plainly, Ty, Acquire, CreateLock, Join, Release, Address, Waiter, Val, out-Val, Done, Undefined, Ask, ◌>>=◌, Allocate, reading_part, addresses, ActsOn, IsCreation, IsWaiter, pointer_in}
use Rattle.mr_start.specs.EvalTyped.{meaningless}
use Rattle.mr_base.specs.Stops.{Stop}
use Rattle.mr_ast.specs.declared.program.Intrinsic.{Intrinsic}
use Rattle.mr_ast.specs.declared.types.Ty.{out-Ty}
use Rattle.mr_base.specs.declared.byte.Kind.TheVariants.{Heap}
use Rattle.mr_base.specs.declared.reason.Reason.TheVariants.{BadAlign, SizeTooLarge}
use Rattle.mr_value.specs.Numbers.{number_of}
use Rattle.mr_exchange.specs.PlanMachine.{CreatesNothing}
use Rattle.mr_exchange.specs.PlanQueries.{OfMemory, StepScript, memory_part}
use Rattle.mr_start.specs.IntrOperations.{Operation, acquire, allocate, allocating, assume, assuming, atomic_load, atomic_store, compare_exchange, create_lock, deallocate, exchanged, fetch, fetched, found, instant, is_power_of_two, join, loaded, modify, number_in, operation, print, release, releasing, truth_in, with_pick}
use Rattle.mr_start.specs.IntrTexts.{texts_of}
use Rattle.mr_start.proofs.IntrEachOperation.{of_operation}
use Rattle.mr_start.specs.TypingTypes.{integer_in}
use Rattle.mr_value.specs.declared.val.Val.TheVariants as val
use Rattle.mr_exchange.proofs.PlanElementLaws.{Any-one}
use Rattle.mr_exchange.proofs.Marks.{Marks, marked, unmarked}
use Rattle.mr_exchange.proofs.Parts.{reads_any}
use Rattle.mr_exchange.proofs.Tells.{Any-nil, Any-single, OpTells, PlanTells, one_event, tells_one, tells_quiet, tells_same}
use Rattle.mr_exchange.proofs.Tracked.{Tracks}

-- the operation tells what it does
abbrev pub OperationTells : Operation → Type 0
OperationTells operating = Tracks marked (PlanTells OpTells) unmarked operating

-- what it does at once tells so of a step that creates nothing and makes no allocation
abbrev pub InstantTells : StepScript (Option Val) → Type 0
InstantTells script = Tracks marked (OpTells CreatesNothing []) unmarked script

pub instant_tells : (script : StepScript (Option Val)) → InstantTells script → OperationTells (instant script)
instant_tells script h = record { looks = λ l w. absurd (Any-nil (IsWaiter l) w); acts = λ picks. h }

-- what evaluation could find out without memory, and what is done with it
pub found_then : {A B : Type 0} (P : B → Marks → Type 0) (e : Marks) (o : Option A) (f : A → StepScript B) → ((x : A) → Tracks marked P e (f x)) → Tracks marked P e (found o >>= f)
found_then P e None f h = tt
found_then P e (Some x) f h = h x

-- ---- output and assumptions

assume_tells : (v : Val) → OperationTells (assume v)
assume_tells v = instant_tells _ (found_then (OpTells CreatesNothing []) unmarked (truth_in (out-Val v)) assuming by_truth)
  where
    by_truth : (b : Bool) → InstantTells (assuming b)
    by_truth true = tells_quiet []
    by_truth false = tt

print_tells : (types : List Ty) (args : List Val) → OperationTells (print types args)
print_tells types args = instant_tells _ (reads_any (OpTells CreatesNothing []) unmarked (texts_of types args) _ (λ texts x. tells_quiet []))

-- ---- heap

allocating_tells : (size align : ℕ) → OperationTells (allocating size align)
allocating_tells size align = by_tests (nat_lt (2 ^ 63 - 1) size) (is_power_of_two align)
  where
    at_address : (picks : List ℕ) → Tracks marked (OpTells CreatesNothing (addresses (Address size align ∷ []) picks)) unmarked ((with_pick (Address size align) (λ a. Ask (OfMemory (Allocate Heap size align a)) (λ p. Done (Some (val.Ptr p))))).go picks)
    at_address [] = tt
    at_address (a ∷ []) = λ p. tells_quiet ((a, size) ∷ [])
    at_address (a ∷ b ∷ picks) = tt

    by_tests : (large power : Bool) → OperationTells (if large then Undefined (plainly SizeTooLarge) else (if power then Done (with_pick (Address size align) (λ a. Ask (OfMemory (Allocate Heap size align a)) (λ p. Done (Some (val.Ptr p))))) else Undefined (plainly BadAlign)))
    by_tests true power = tt
    by_tests false true = record { looks = λ l w. absurd (Any-one (IsWaiter l) (Address size align) w); acts = at_address }
    by_tests false false = tt

allocate_tells : (size align : Val) → OperationTells (allocate size align)
allocate_tells size align =
    found_then (PlanTells OpTells) unmarked (number_in (out-Val size)) _
    (λ s. found_then (PlanTells OpTells) unmarked (number_in (out-Val align)) _ (λ a. allocating_tells s a))

deallocate_tells : (what size align : Val) → OperationTells (deallocate what size align)
deallocate_tells what size align =
    instant_tells _
    (found_then (OpTells CreatesNothing []) unmarked (pointer_in (out-Val what)) _
    (λ p. found_then (OpTells CreatesNothing []) unmarked (number_in (out-Val size)) _
    (λ s. found_then (OpTells CreatesNothing []) unmarked (number_in (out-Val align)) _ (λ a x. tells_quiet []))))

-- ---- threads and locks

join_tells : (thread : Val) → OperationTells (join thread)
join_tells thread = instant_tells _ (found_then (OpTells CreatesNothing []) unmarked (number_in (out-Val thread)) _ (λ u x. tells_one (Join u) (λ h. h) (λ h. h)))

create_lock_tells : OperationTells create_lock
create_lock_tells = record {
  looks = λ l w. absurd (Any-nil (IsWaiter l) w);
  acts = λ picks l. record { allocates = refl; one_event = one_event (CreateLock l); creates = Any-single IsCreation (CreateLock l) tt; once = omega arith };
}

acquire_tells : (lock : Val) → OperationTells (acquire lock)
acquire_tells lock = instant_tells _ (found_then (OpTells CreatesNothing []) unmarked (number_in (out-Val lock)) _ (λ l x. tells_one (Acquire l) (λ h. h) (λ h. h)))

-- a lock that was looked at is given back
releasing_tells : (l : ℕ) (waits : Bool) → PlanTells OpTells (releasing l waits) ((Release l ∷ [], 0), [])
releasing_tells l true = record { looks = λ k w. Any-single (ActsOn k) (Release l) (Any-one (IsWaiter k) (Waiter l) w); acts = to_waiter }
  where
    to_waiter : (picks : List ℕ) → Tracks marked (OpTells CreatesNothing (addresses (Waiter l ∷ []) picks)) ((Release l ∷ [], 0), []) ((releasing l true).go picks)
    to_waiter [] = tt
    to_waiter (u ∷ []) = λ x. tells_same (Release l) 1 (omega arith) (λ h. h) (λ h. h)
    to_waiter (u ∷ v ∷ picks) = tt
releasing_tells l false = record { looks = λ k w. absurd (Any-nil (IsWaiter k) w); acts = λ picks x. tells_same (Release l) 0 (omega arith) (λ h. h) (λ h. h) }

release_tells : (lock : Val) → OperationTells (release lock)
release_tells lock = found_then (PlanTells OpTells) unmarked (number_in (out-Val lock)) _ (λ l waits. releasing_tells l waits)

-- ---- atomics

atomic_store_tells : (at : Val) (t : Ty) (v : Val) → OperationTells (atomic_store at t v)
atomic_store_tells at t v = instant_tells _ (found_then (OpTells CreatesNothing []) unmarked (pointer_in (out-Val at)) _ (λ p x. tells_quiet []))

atomic_load_tells : (at : Val) (t : Ty) → OperationTells (atomic_load at t)
atomic_load_tells at t = instant_tells _ (found_then (OpTells CreatesNothing []) unmarked (pointer_in (out-Val at)) _ (λ p bytes. by_number (meaningless t p) (number_of bytes)))
  where
    by_number : (stop : Stop) (o : Option ℕ) → InstantTells (memory_part (reading_part (loaded stop o)))
    by_number stop None = tt
    by_number stop (Some n) = tells_quiet []

modify_tells : (at : Val) (t : Ty) (change : ℕ → Option ℕ) → InstantTells (modify at t change)
modify_tells at t change = found_then (OpTells CreatesNothing []) unmarked (pointer_in (out-Val at)) _ (λ p n. tells_quiet [])

exchange_tells : (at : Val) (t : Ty) (old new : Val) → OperationTells (compare_exchange at t old new)
exchange_tells at t old new =
    instant_tells _
    (found_then (OpTells CreatesNothing []) unmarked (number_in (out-Val old)) _
    (λ a. found_then (OpTells CreatesNothing []) unmarked (number_in (out-Val new)) _ (λ b. modify_tells at t (exchanged a b))))

fetch_tells : (op : Intrinsic) (at : Val) (t : Ty) (v : Val) → OperationTells (fetch op at t v)
fetch_tells op at t v =
    instant_tells _
    (found_then (OpTells CreatesNothing []) unmarked (integer_in (out-Ty t)) _
    (λ int. found_then (OpTells CreatesNothing []) unmarked (number_in (out-Val v)) _ (λ k. modify_tells at t (fetched op int k))))

-- ---- by name

-- EACH INTRINSIC but the start of a thread and the look at a payload
pub operation_tells : (op : Intrinsic) (args : List Val) (types : List Ty) (result : Option Ty) → OperationTells (operation op args types result)
operation_tells = of_operation OperationTells (record {
  assumes = assume_tells;
  prints = print_tells;
  allocates = allocate_tells;
  deallocates = deallocate_tells;
  joins = join_tells;
  creates = create_lock_tells;
  acquires = acquire_tells;
  releases = release_tells;
  stores = atomic_store_tells;
  loads = atomic_load_tells;
  exchanges = exchange_tells;
  fetches = fetch_tells;
  broken = tt;
})
