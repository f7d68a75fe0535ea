-- A step prints the texts of integers and bools alone.
use Rattle.mr_answer.proofs.Common.{◌≡◌, ℕ, refl, ◌∙◌, List, [], ◌∷◌, ◌++◌, arith, Bool, true, false, Option, Some, None, All, if◌then◌else◌, slice_get, list_all, All-cons, All-head, All-nil, All-tail, Own, is_printed}
use Rattle.std.proofs.Common.{◌-◌, ◌^◌, ◌%◌, decimal}
use Rattle.std.specs.Prelude.{nat_lt}
use Rattle.std.specs.Fmt.{digit_glyph}
use Rattle.std.proofs.lemmas.Bool.{and_from}
use Rattle.std.proofs.lemmas.Bool.Decides.{nat_tests}
use Rattle.std.proofs.lemmas.List.Folds.{list_all-append}
use Rattle.mr_base.specs.Stops.{plainly, Stop}
use Rattle.mr_step.specs.EvalTyped.{meaningless}
use Rattle.mr_ast.specs.declared.program.Function.{Function}
use Rattle.mr_ast.specs.declared.program.Intrinsic.{Intrinsic}
use Rattle.mr_ast.specs.declared.types.Num.{Num}
use Rattle.mr_ast.specs.declared.types.Ty.{Ty, out-Ty}
use Rattle.mr_ast.specs.declared.types.Ty.TheOpen.{Ty-F}
use Rattle.mr_ast.specs.declared.types.Variant.{Variant}
use Rattle.mr_base.specs.declared.byte.Kind.TheVariants.{Heap}
use Rattle.mr_base.specs.declared.byte.Pointer.{Pointer}
use Rattle.mr_base.specs.declared.reason.Reason.TheVariants.{BadAlign, SignatureMismatch, SizeTooLarge}
use Rattle.mr_sched.specs.declared.schedule.Ask.TheVariants.{Address}
use Rattle.mr_value.specs.declared.val.Val.{Val, out-Val}
use Rattle.mr_value.specs.declared.val.Val.TheOpen.{Val-F}
use Rattle.mr_value.specs.Discriminants.{number_of_bits}
use Rattle.mr_value.specs.Numbers.{number_of}
use Rattle.mr_base.specs.Script.{Ask, Done, IllFormed, Undefined, ◌>>=◌}
use Rattle.mr_step.specs.EvalMemoryQueries.{Allocate, MemoryScript, reading_part}
use Rattle.mr_step.specs.EvalOperators.{or_ill_formed, pointer_in}
use Rattle.mr_step.specs.EvalReads.{ReadScript}
use Rattle.mr_step.specs.PlanMachine.{CreatesThread, Plan}
use Rattle.mr_step.specs.PlanQueries.{OfMemory, StepScript, memory_part}
use Rattle.mr_step.proofs.FrameStorageSteps.{Leads}
use Rattle.mr_step.specs.FrameCalls.{callee_of, enter, kept_types, same_types, storage_asks}
use Rattle.mr_step.specs.FrameFrames.{Aborts, EndsThread, Exits, GoesOn, Look, Onward}
use Rattle.mr_step.specs.FrameOperations.{DueDo, Operands, finish, next_do, operands}
use Rattle.mr_step.specs.FrameSteps.{frame_plan}
use Rattle.mr_step.specs.IntrOperations.{Operation, acquire, allocate, allocating, assume, assuming, atomic_load, atomic_store, compare_exchange, create_lock, deallocate, exchanged, fetch, fetched, found, instant, is_power_of_two, join, loaded, modify, number_in, operation, print, release, releasing, truth_in, with_pick}
use Rattle.mr_step.specs.IntrTexts.{bool_text, number_text, spaced, spaced_behind, text_layer, text_of, texts_of}
use Rattle.mr_step.proofs.IntrEachOperation.{of_operation}
use Rattle.mr_step.specs.ThreadSteps.{Turn, TurnPlan, do_step, finished, finishing, frame_step, in_step, last_payload, new_thread, onward, operated, own_step, spawn, spawn_function, spawn_number, spawn_types, start, step_due, thread_types}
use Rattle.mr_report.proofs.PlainLaws.{decimal_passes}
use Rattle.mr_typing.specs.Types.{integer_in}
use Rattle.mr_ast.specs.declared.program.Intrinsic.TheVariants as intrinsic
use Rattle.mr_value.specs.declared.val.Val.TheVariants as val
use Rattle.mr_answer.proofs.Printing.Prints.{Anything, IsPlain, Prints, memory_prints, prints_then, reads_print}

-- ---- texts

digit_printed : (n : ℕ) → is_printed (digit_glyph false (n % 10)) ≡ true
digit_printed n = grind (arith, nat_tests)

number_plain : (n : Num) → IsPlain (number_text n)
number_plain n = by_sign n.neg
  where
    by_sign : (b : Bool) → IsPlain (if b then 45 ∷ decimal n.mag else decimal n.mag)
    by_sign true = decimal_passes is_printed digit_printed n.mag
    by_sign false = decimal_passes is_printed digit_printed n.mag

bool_plain : (b : Bool) → IsPlain (bool_text b)
bool_plain true = refl
bool_plain false = refl

-- the text of a value, where it has one
abbrev HasPlain : Option (List ℕ) → Type 0
HasPlain None = Unit {0}
HasPlain (Some text) = IsPlain text

layer_plain : (t : Ty-F Ty Variant) (v : Val-F Val) → HasPlain (text_layer t v)
layer_plain (Ty-F.Int int) (Val-F.Int bits) = number_plain (number_of_bits int bits)
layer_plain Ty-F.Bool (Val-F.Bool b) = bool_plain b
layer_plain _ _ = tt

-- a script behind one of which something is known
leads_on : {A B : Type 0} (P : A → Type 0) (Q : B → Type 0) (m : ReadScript A) (f : A → ReadScript B) → Leads P m → ((x : A) → P x → Leads Q (f x)) → Leads Q (m >>= f)
leads_on P Q (Done a) f h k = k a h
leads_on P Q (Undefined r) f h k = tt
leads_on P Q IllFormed f h k = tt
leads_on P Q (Ask q c) f h k = λ x. leads_on P Q (c x) f (h x) k

found_plain : (o : Option (List ℕ)) → HasPlain o → Leads IsPlain (or_ill_formed o)
found_plain None h = tt
found_plain (Some text) h = h

texts_plain : (types : List Ty) (args : List Val) → Leads (λ texts. All IsPlain texts) (texts_of types args)
texts_plain [] [] = All-nil IsPlain
texts_plain [] (v ∷ vs) = tt
texts_plain (t ∷ ts) [] = tt
texts_plain (t ∷ ts) (v ∷ vs) =
    leads_on IsPlain (λ texts. All IsPlain texts) (or_ill_formed (text_of t v)) _ (found_plain (text_of t v) (layer_plain (out-Ty t) (out-Val v)))
    (λ text plain. leads_on (λ texts. All IsPlain texts) (λ texts. All IsPlain texts) (texts_of ts vs) _ (texts_plain ts vs) (λ texts more. All-cons IsPlain text texts plain more))

both_plain : (a b : List ℕ) → IsPlain a → IsPlain b → IsPlain (a ++ b)
both_plain a b h k = list_all-append is_printed a b ∙ and_from (list_all is_printed a) (list_all is_printed b) h k

behind_plain : (texts : List (List ℕ)) → All IsPlain texts → IsPlain (spaced_behind texts)
behind_plain [] h = refl
behind_plain (text ∷ texts) h =
    both_plain (32 ∷ text) (spaced_behind texts) (All-head IsPlain text texts h) (behind_plain texts (All-tail IsPlain text texts h))

spaced_plain : (texts : List (List ℕ)) → All IsPlain texts → IsPlain (spaced texts)
spaced_plain [] h = refl
spaced_plain (text ∷ texts) h = both_plain text (spaced_behind texts) (All-head IsPlain text texts h) (behind_plain texts (All-tail IsPlain text texts h))

-- ---- intrinsics

-- whatever is picked, the plan prints such texts alone
abbrev PlanPrints : {A : Type 0} → Plan (StepScript A) → Type 0
PlanPrints {A} plan = (picks : List ℕ) → Prints {A = A} Anything (plan.go picks)

abbrev OperationPrints : Operation → Type 0
OperationPrints operating = Prints PlanPrints operating

abbrev InstantPrints : StepScript (Option Val) → Type 0
InstantPrints script = Prints Anything script

instant_prints : (script : StepScript (Option Val)) → InstantPrints script → OperationPrints (instant script)
instant_prints script h = λ picks. h

found_prints : {A B : Type 0} (Q : B → Type 0) (o : Option A) (f : A → StepScript B) → ((x : A) → Prints Q (f x)) → Prints Q (found o >>= f)
found_prints Q None f h = tt
found_prints Q (Some x) f h = h x

assume_prints : (v : Val) → OperationPrints (assume v)
assume_prints v = instant_prints _ (found_prints Anything (truth_in (out-Val v)) assuming by_truth)
  where
    by_truth : (b : Bool) → InstantPrints (assuming b)
    by_truth true = tt
    by_truth false = tt

print_prints : (types : List Ty) (args : List Val) → OperationPrints (print types args)
print_prints types args = instant_prints _ (reads_print (λ texts. All IsPlain texts) Anything (texts_of types args) _ (texts_plain types args) (λ texts plain. (spaced_plain texts plain, λ x. tt)))

-- an allocation at the address that is picked
abbrev at_pick : ℕ → ℕ → ℕ → StepScript (Option Val)
at_pick size align a = Ask (OfMemory (Allocate Heap size align a)) (λ p. Done (Some (val.Ptr p)))

allocating_prints : (size align : ℕ) → OperationPrints (allocating size align)
allocating_prints size align = by_tests (nat_lt (2 ^ 63 - 1) size) (is_power_of_two align)
  where
    at_address : PlanPrints (with_pick (Address size align) (at_pick size align))
    at_address [] = tt
    at_address (a ∷ []) = (tt, λ p. tt)
    at_address (a ∷ b ∷ picks) = tt

    by_tests : (large power : Bool) → OperationPrints (if large then Undefined (plainly SizeTooLarge) else (if power then Done (with_pick (Address size align) (at_pick size align)) else Undefined (plainly BadAlign)))
    by_tests true power = tt
    by_tests false true = at_address
    by_tests false false = tt

allocate_prints : (size align : Val) → OperationPrints (allocate size align)
allocate_prints size align = found_prints PlanPrints (number_in (out-Val size)) _ (λ s. found_prints PlanPrints (number_in (out-Val align)) _ (λ a. allocating_prints s a))

deallocate_prints : (what size align : Val) → OperationPrints (deallocate what size align)
deallocate_prints what size align =
    instant_prints _
    (found_prints Anything (pointer_in (out-Val what)) _
    (λ p. found_prints Anything (number_in (out-Val size)) _ (λ s. found_prints Anything (number_in (out-Val align)) _ (λ a. (tt, λ x. tt)))))

join_prints : (thread : Val) → OperationPrints (join thread)
join_prints thread = instant_prints _ (found_prints Anything (number_in (out-Val thread)) _ (λ u. (tt, λ x. tt)))

create_lock_prints : OperationPrints create_lock
create_lock_prints = λ picks. (tt, λ l. tt)

acquire_prints : (lock : Val) → OperationPrints (acquire lock)
acquire_prints lock = instant_prints _ (found_prints Anything (number_in (out-Val lock)) _ (λ l. (tt, λ x. tt)))

releasing_prints : (l : ℕ) (waits : Bool) → PlanPrints (releasing l waits)
releasing_prints l true [] = tt
releasing_prints l true (u ∷ []) = (tt, λ x. tt)
releasing_prints l true (u ∷ v ∷ picks) = tt
releasing_prints l false picks = (tt, λ x. tt)

release_prints : (lock : Val) → OperationPrints (release lock)
release_prints lock = found_prints PlanPrints (number_in (out-Val lock)) _ (λ l. (tt, λ waits. releasing_prints l waits))

atomic_store_prints : (at : Val) (t : Ty) (v : Val) → OperationPrints (atomic_store at t v)
atomic_store_prints at t v = instant_prints _ (found_prints Anything (pointer_in (out-Val at)) _ (λ p. (tt, λ x. tt)))

atomic_load_prints : (at : Val) (t : Ty) → OperationPrints (atomic_load at t)
atomic_load_prints at t = instant_prints _ (found_prints Anything (pointer_in (out-Val at)) _ (λ p. (tt, λ bytes. by_number (meaningless t p) (number_of bytes))))
  where
    by_number : (stop : Stop) (o : Option ℕ) → InstantPrints (memory_part (reading_part (loaded stop o)))
    by_number stop None = tt
    by_number stop (Some n) = tt

modify_prints : (at : Val) (t : Ty) (change : ℕ → Option ℕ) → InstantPrints (modify at t change)
modify_prints at t change = found_prints Anything (pointer_in (out-Val at)) _ (λ p. (tt, λ n. tt))

exchange_prints : (at : Val) (t : Ty) (old new : Val) → OperationPrints (compare_exchange at t old new)
exchange_prints at t old new =
    instant_prints _
    (found_prints Anything (number_in (out-Val old)) _ (λ a. found_prints Anything (number_in (out-Val new)) _ (λ b. modify_prints at t (exchanged a b))))

fetch_prints : (op : Intrinsic) (at : Val) (t : Ty) (v : Val) → OperationPrints (fetch op at t v)
fetch_prints op at t v =
    instant_prints _
    (found_prints Anything (integer_in (out-Ty t)) _ (λ int. found_prints Anything (number_in (out-Val v)) _ (λ k. modify_prints at t (fetched op int k))))

operation_prints : (op : Intrinsic) (args : List Val) (types : List Ty) (result : Option Ty) → OperationPrints (operation op args types result)
operation_prints = of_operation OperationPrints (record {
  assumes = assume_prints;
  prints = print_prints;
  allocates = allocate_prints;
  deallocates = deallocate_prints;
  joins = join_prints;
  creates = create_lock_prints;
  acquires = acquire_prints;
  releases = release_prints;
  stores = atomic_store_prints;
  loads = atomic_load_prints;
  exchanges = exchange_prints;
  fetches = fetch_prints;
  broken = tt;
})

-- ---- a step

abbrev pub StepPrints : TurnPlan → Type 0
StepPrints script = Prints PlanPrints script

module _ (own : Own) where
  onward_prints : (o : Onward) → Prints {A = Turn} Anything (onward own o)
  onward_prints (GoesOn s) = tt
  onward_prints (EndsThread s) = (tt, λ x. tt)
  onward_prints Exits = tt
  onward_prints Aborts = tt

  in_step_prints : (plan : Plan (MemoryScript Onward)) → PlanPrints (in_step own plan)
  in_step_prints plan picks = memory_prints Anything (plan.go picks) (onward own) (λ o. onward_prints o)

  frame_step_prints : (look : Look) → StepPrints (frame_step look own)
  frame_step_prints look = memory_prints PlanPrints (reading_part (frame_plan look own.thread own.stack)) _ (λ plan. in_step_prints plan)

module _ (own : Own) (d : DueDo) (o : Operands) where
  finishing_prints : (v : Option Val) (started : Option Own) → Prints {A = Turn} Anything (finishing own d o v started)
  finishing_prints v started = memory_prints Anything (finish own.stack d o v) _ (λ s. tt)

  finished_prints : (operating : Operation) → OperationPrints operating → StepPrints (finished own d o operating)
  finished_prints operating h =
      prints_then PlanPrints PlanPrints operating _ h
      (λ plan prints picks. prints_then Anything Anything (plan.go picks) _ (prints picks) (λ v any. finishing_prints v None))

  payload_prints : (payloads : List Pointer) → OperationPrints (last_payload payloads)
  payload_prints [] = tt
  payload_prints (p ∷ payloads) = instant_prints (Done (Some (val.Ptr p))) tt

  start_prints : (number : ℕ) (fn : Function) (argument : Val) (picks : List ℕ) → Prints {A = Turn} Anything (start own d o number fn argument picks)
  start_prints number fn argument picks =
      memory_prints Anything (enter number (Some fn) (argument ∷ []) picks) _ (λ frame. (tt, λ thread. finishing_prints (Some (val.Int thread)) (Some (new_thread thread frame))))

  typed_prints : (number : ℕ) (fn : Function) (argument : Val) (types : Option (List Ty)) → StepPrints (spawn_types own d o number fn argument types)
  typed_prints number fn argument None = tt
  typed_prints number fn argument (Some types) = by_test (same_types thread_types types)
    where
      by_test : (b : Bool) → StepPrints (if b then Done (record { creates = CreatesThread; asks = storage_asks types; go = start own d o number fn argument }) else Undefined (plainly SignatureMismatch))
      by_test true = start_prints number fn argument
      by_test false = tt

  module _ (look : Look) where
    numbered_prints : (argument : Val) (n : Option ℕ) → StepPrints (spawn_number look own d o argument n)
    numbered_prints argument None = tt
    numbered_prints argument (Some number) = by_function (slice_get look.program.functions number)
      where
        by_function : (g : Option Function) → StepPrints (spawn_function own d o number argument g)
        by_function None = tt
        by_function (Some fn) = typed_prints number fn argument (kept_types fn)

    spawn_prints : (args : List Val) → StepPrints (spawn look own d o args)
    spawn_prints (callee ∷ argument ∷ []) = found_prints PlanPrints (pointer_in (out-Val callee)) _ (λ c. numbered_prints argument (callee_of look.functions c))
    spawn_prints _ = tt

    operated_prints : (op : Intrinsic) → StepPrints (operated look own d o op)
    operated_prints intrinsic.Spawn = spawn_prints o.args
    operated_prints intrinsic.Payload = finished_prints (last_payload own.stack.payloads) (payload_prints own.stack.payloads)
    operated_prints op = finished_prints (operation op o.args o.arg_types o.result_type) (operation_prints op o.args o.arg_types o.result_type)

do_step_prints : (look : Look) (own : Own) (d : DueDo) → StepPrints (do_step look own d)
do_step_prints look own d = memory_prints PlanPrints (reading_part (operands look d)) _ (λ o. operated_prints own d o look d.op)

-- THE STEP OF A THREAD
pub step_prints : (look : Look) (own : Own) → StepPrints (own_step look own)
unfolding own_step
step_prints look own = by_due (next_do look own.stack)
  where
    by_due : (o : Option DueDo) → StepPrints (step_due look own o)
    by_due None = frame_step_prints own look
    by_due (Some d) = do_step_prints look own d

-- the step and what its plan does, as one
pub whole_prints : (look : Look) (own : Own) (picks : List ℕ) → Prints {A = Turn} Anything (own_step look own >>= λ plan. plan.go picks)
whole_prints look own picks = prints_then PlanPrints Anything (own_step look own) _ (step_prints look own) (λ plan prints. prints picks)
