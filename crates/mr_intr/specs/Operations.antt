-- What each intrinsic does with its arguments, as a script of a step; the start of a thread and the look at a payload
-- stand with the step of a thread. (MiniRust, lang: intrinsics.)
use Rattle.std.specs.Prelude.{ℕ, ◌-◌, ◌^◌, Bool, true, false, if◌then◌else◌, ◌==◌, nat_lt, List, [], ◌∷◌, Option, None}
use Rattle.std.specs.Prelude.{Some, count_ones, bit_and, bit_or, bit_xor, ◌+ℤ◌, ◌-ℤ◌}
use Rattle.mr_base.specs.Stops.{plainly}
use Rattle.mr_ast.specs.declared.program.Intrinsic.{Intrinsic}
use Rattle.mr_ast.specs.declared.program.Intrinsic.TheVariants as intrinsic
use Rattle.mr_ast.specs.declared.types.IntType.{IntType}
use Rattle.mr_ast.specs.declared.types.Ty.{Ty, out-Ty}
use Rattle.mr_base.specs.declared.byte.Kind.TheVariants.{Heap}
use Rattle.mr_base.specs.declared.byte.Pointer.{Pointer}
use Rattle.mr_base.specs.declared.reason.Reason.TheVariants.{AssumeFalse, BadAlign, SizeTooLarge}
use Rattle.mr_base.specs.Stops.{Stop}
use Rattle.mr_eval.specs.Numbers.{bits_for, value_of}
use Rattle.mr_layout.specs.Sizes.{align_of, size_of}
use Rattle.mr_sched.specs.declared.schedule.Ask.{Ask}
use Rattle.mr_sched.specs.declared.schedule.Ask.TheVariants.{Address, Waiter}
use Rattle.mr_value.specs.declared.val.Val.{Val, out-Val}
use Rattle.mr_value.specs.declared.val.Val.TheVariants as val
use Rattle.mr_value.specs.declared.val.Val.TheOpen.{Val-F}
use Rattle.mr_value.specs.Encode.{encoding_of}
use Rattle.mr_value.specs.Numbers.{number_of}
use Rattle.mr_base.specs.Script.{Done, Undefined, IllFormed, Ask as Asks, ◌>>=◌}
use Rattle.mr_eval.specs.MemoryQueries.{Allocate, Free, Modify, Write, reading_part}
use Rattle.mr_eval.specs.Operators.{or_ill_formed, pointer_in}
use Rattle.mr_eval.specs.Reads.{Read, ReadScript}
use Rattle.mr_eval.specs.Typed.{meaningless}
use Rattle.mr_plan.specs.Machine.{CreatesLock, CreatesNothing, Plan}
use Rattle.mr_plan.specs.Queries.{Await, NewLock, OfMemory, Print, StepScript, TryLock, Unlock, Waiting, memory_part}
use Rattle.mr_intr.specs.Texts.{spaced, texts_of}
use Rattle.mr_typing.specs.Types.{integer_in}

-- what an intrinsic comes to: a value, where it gives one
abbrev pub Result : Type 0
Result = Option Val

-- what it finds out before it needs a pick, and then what it does
abbrev pub Operation : Type 0
Operation = StepScript (Plan (StepScript Result))

-- ---- parts

-- it creates nothing and needs no pick
abbrev pub instant : StepScript Result → Operation
instant script = Done (record { creates = CreatesNothing; asks = []; go = λ picks. script })

-- it needs one pick
abbrev pub with_pick : Ask → (ℕ → StepScript Result) → Plan (StepScript Result)
with_pick ask f = record { creates = CreatesNothing; asks = ask ∷ []; go = picked f }
  where
    picked : (ℕ → StepScript Result) → List ℕ → StepScript Result
    picked g (pick ∷ []) = g pick
    picked g _ = IllFormed

-- what evaluation could find out without memory
abbrev pub found : {A : Type 0} → Option A → StepScript A
found o = memory_part (reading_part (or_ill_formed o))

-- the bits of an integer
abbrev pub number_in : Val-F Val → Option ℕ
number_in (Val-F.Int bits) = Some bits
number_in _ = None

-- the truth of a bool
abbrev pub truth_in : Val-F Val → Option Bool
truth_in (Val-F.Bool b) = Some b
truth_in _ = None

-- an unsigned integer's number, and an integer's bits
abbrev pub number : Val → StepScript ℕ
number v = found (number_in (out-Val v))

-- the pointer that an argument is
abbrev pub pointer : Val → StepScript Pointer
pointer v = found (pointer_in (out-Val v))

-- ---- output and assumptions

-- `assume`: 124 where it is false
abbrev pub assuming : Bool → StepScript Result
assuming b = if b then Done None else Undefined (plainly AssumeFalse)

-- it does nothing where the argument is true, and else the program is undefined
abbrev pub assume : Val → Operation
assume v = instant (found (truth_in (out-Val v)) >>= assuming)

-- `print`: one text
abbrev pub print : List Ty → List Val → Operation
print types args =
    instant (memory_part (reading_part (texts_of types args)) >>= λ texts. Asks (Print (spaced texts)) (λ _. Done None))

-- ---- heap

-- a power of two
abbrev pub is_power_of_two : ℕ → Bool
is_power_of_two n = count_ones n == 1

-- `allocate`: 125 above 2^63 - 1, 126 where the alignment is no power of two; then an address
abbrev pub allocating : ℕ → ℕ → Operation
allocating size align =
    if nat_lt (2 ^ 63 - 1) size then Undefined (plainly SizeTooLarge)
    else (if is_power_of_two align then Done
    (with_pick (Address size align) (λ a. Asks (OfMemory (Allocate Heap size align a)) (λ p. Done (Some (val.Ptr p)))))
    else Undefined (plainly BadAlign))

-- an allocation on the heap of a size and an alignment, at an address that is picked
abbrev pub allocate : Val → Val → Operation
allocate size align = number size >>= λ s. number align >>= λ a. allocating s a

-- `deallocate`: the end of a heap allocation
abbrev pub deallocate : Val → Val → Val → Operation
deallocate what size align = instant (do
  p ← pointer what
  s ← number size
  a ← number align
  Asks (OfMemory (Free p Heap s a)) (λ _. Done None))

-- ---- threads and locks

-- `join`: the thread waits, or goes on; what it does next is the same
abbrev pub join : Val → Operation
join thread = instant (number thread >>= λ u. Asks (Await u) (λ goes. Done None))

-- `create_lock`
abbrev pub create_lock : Operation
create_lock =
    Done (record { creates = CreatesLock; asks = []; go = λ picks. Asks NewLock (λ l. Done (Some (val.Int l))) })

-- `acquire`: the thread waits, or has the lock
abbrev pub acquire : Val → Operation
acquire lock = instant (number lock >>= λ l. Asks (TryLock l) (λ has. Done None))

-- the lock is given to the waiter that is picked, or to none where none waits
abbrev pub unlocking : ℕ → Option ℕ → StepScript Result
unlocking l to = Asks (Unlock l to) (λ _. Done None)

-- a lock is given back, to a waiter that is picked where threads wait for it
abbrev pub releasing : ℕ → Bool → Plan (StepScript Result)
releasing l true = with_pick (Waiter l) (λ u. unlocking l (Some u))
releasing l false = record { creates = CreatesNothing; asks = []; go = λ picks. unlocking l None }

-- `release`: 132, 133; then a waiter, where one waits
abbrev pub release : Val → Operation
release lock = number lock >>= λ l. Asks (Waiting l) Done >>= λ waits. Done (releasing l waits)

-- ---- atomics

-- `atomic_store`, of a value of an integer type
abbrev pub atomic_store : Val → Ty → Val → Operation
atomic_store at t v =
    instant (pointer at >>= λ p. Asks (OfMemory (Write true p (encoding_of t v) (align_of t))) (λ _. Done None))

-- the number that bytes are, or this stop where they are none
abbrev pub loaded : Stop → Option ℕ → ReadScript Result
loaded stop None = Undefined stop
loaded stop (Some n) = Done (Some (val.Int n))

-- `atomic_load`, of an integer type: 107 where the bytes are no number
abbrev pub atomic_load : Val → Ty → Operation
atomic_load at t =
    instant (pointer at >>= λ p. memory_part
    (reading_part (Asks (Read true p (size_of t) (align_of t)) (λ bytes. loaded (meaningless t p) (number_of bytes)))))

-- a read and a change in one; what was read is given
abbrev pub modify : Val → Ty → (ℕ → Option ℕ) → StepScript Result
modify at t change = pointer at >>= λ p. Asks (OfMemory (Modify p (size_of t) change)) (λ n. Done (Some (val.Int n)))

-- the new bits, where the old ones are those that were expected
abbrev pub exchanged : ℕ → ℕ → ℕ → Option ℕ
exchanged old new n = if n == old then Some new else None

-- `compare_exchange`
abbrev pub compare_exchange : Val → Ty → Val → Val → Operation
compare_exchange at t old new = instant (number old >>= λ a. number new >>= λ b. modify at t (exchanged a b))

-- the bits behind a fetch, which wraps
abbrev pub fetched : Intrinsic → IntType → ℕ → ℕ → Option ℕ
fetched intrinsic.FetchAdd int k n = Some (bits_for int (value_of int n +ℤ value_of int k))
fetched intrinsic.FetchSub int k n = Some (bits_for int (value_of int n -ℤ value_of int k))
fetched intrinsic.FetchAnd int k n = Some (bit_and n k)
fetched intrinsic.FetchOr int k n = Some (bit_or n k)
fetched intrinsic.FetchXor int k n = Some (bit_xor n k)
fetched _ int k n = None

-- `fetch_add` to `fetch_xor`
abbrev pub fetch : Intrinsic → Val → Ty → Val → Operation
fetch op at t v =
    instant (found (integer_in (out-Ty t)) >>= λ int. number v >>= λ k. modify at t (fetched op int k))

-- ---- by name

-- WHAT AN INTRINSIC DOES with arguments of these types, and a result of this type where it gives one
abbrev pub operation : Intrinsic → List Val → List Ty → Option Ty → Operation
operation intrinsic.Assume (v ∷ []) types result = assume v
operation intrinsic.Print args types result = print types args
operation intrinsic.Allocate (size ∷ align ∷ []) types result = allocate size align
operation intrinsic.Deallocate (what ∷ size ∷ align ∷ []) types result = deallocate what size align
operation intrinsic.Join (thread ∷ []) types result = join thread
operation intrinsic.CreateLock [] types result = create_lock
operation intrinsic.Acquire (lock ∷ []) types result = acquire lock
operation intrinsic.Release (lock ∷ []) types result = release lock
operation intrinsic.AtomicStore (at ∷ v ∷ []) (p ∷ t ∷ []) result = atomic_store at t v
operation intrinsic.AtomicLoad (at ∷ []) types (Some t) = atomic_load at t
operation intrinsic.CompareExchange (at ∷ old ∷ new ∷ []) types (Some t) = compare_exchange at t old new
operation intrinsic.FetchAdd (at ∷ v ∷ []) types (Some t) = fetch intrinsic.FetchAdd at t v
operation intrinsic.FetchSub (at ∷ v ∷ []) types (Some t) = fetch intrinsic.FetchSub at t v
operation intrinsic.FetchAnd (at ∷ v ∷ []) types (Some t) = fetch intrinsic.FetchAnd at t v
operation intrinsic.FetchOr (at ∷ v ∷ []) types (Some t) = fetch intrinsic.FetchOr at t v
operation intrinsic.FetchXor (at ∷ v ∷ []) types (Some t) = fetch intrinsic.FetchXor at t v
operation _ args types result = IllFormed
