-- No step of a thread is refused with a data race.
use Rattle.mr_witness.proofs.Common.{◌≡◌, ℕ, refl, List, [], ◌∷◌, ◌-◌, ◌^◌, Bool, true, false, Option, Some, None, if◌then◌else◌, nat_lt, slice_get, meaningless, plainly, Ty, out-Ty, Pointer, SignatureMismatch, Val, out-Val, number_of, Ask, Done, IllFormed, Undefined, ◌>>=◌, Allocate, MemoryScript, reading_part, or_ill_formed, pointer_in, ReadScript, OfMemory, StepScript, memory_part}
use Rattle.mr_ast.specs.declared.program.Function.{Function}
use Rattle.mr_ast.specs.declared.program.Intrinsic.{Intrinsic}
use Rattle.mr_base.specs.declared.byte.Kind.TheVariants.{Heap}
use Rattle.mr_base.specs.declared.reason.Reason.TheVariants.{BadAlign, SizeTooLarge}
use Rattle.mr_sched.specs.declared.schedule.Ask.TheVariants.{Address, Waiter}
use Rattle.mr_exchange.specs.PlanMachine.{CreatesThread, Plan}
use Rattle.mr_exchange.specs.StartFrameCalls.{callee_of, enter, kept_types, same_types, storage_asks}
use Rattle.mr_exchange.specs.StartFrameFrames.{Aborts, EndsThread, Exits, GoesOn, Look, Onward}
use Rattle.mr_exchange.specs.StartFrameOperations.{DueDo, Operands, finish, next_do, operands}
use Rattle.mr_exchange.specs.StartFrameSteps.{frame_plan}
use Rattle.mr_exchange.specs.StartIntrOperations.{Operation, acquire, allocate, allocating, assume, assuming, atomic_load, atomic_store, compare_exchange, create_lock, deallocate, exchanged, fetch, fetched, found, instant, is_power_of_two, join, loaded, modify, number_in, operation, print, release, releasing, truth_in, with_pick}
use Rattle.mr_exchange.specs.StartIntrTexts.{text_of, texts_of}
use Rattle.mr_exchange.proofs.StartIntrEachOperation.{of_operation}
use Rattle.mr_exchange.specs.StartSteps.{Own, Turn, TurnPlan, do_step, finished, finishing, frame_step, in_step, last_payload, new_thread, onward, operated, own_step, spawn, spawn_function, spawn_number, spawn_types, start, step_due, thread_types}
use Rattle.mr_eval.specs.TypingTypes.{integer_in}
use Rattle.mr_ast.specs.declared.program.Intrinsic.TheVariants as intrinsic
use Rattle.mr_value.specs.declared.val.Val.TheVariants as val
use Rattle.mr_witness.proofs.Calm.{Anything, Calms, calms_then, memory_calms, reading_calms}
use Rattle.mr_witness.proofs.Expressions.{Reads, found_reads}
use Rattle.mr_witness.proofs.Frames.{Acts, PlanActs, enter_acts, finish_acts, frame_plans, operands_read}

-- a script of a step, or of a part of one
abbrev Steps : {A : Type 0} → StepScript A → Type 0
Steps m = Calms Anything m

-- whatever is picked, what the plan does is refused with no data race
abbrev PlanSteps : {A : Type 0} → Plan (StepScript A) → Type 0
PlanSteps plan = (picks : List ℕ) → Steps (plan.go picks)

abbrev Plans : {A : Type 0} → StepScript (Plan (StepScript A)) → Type 0
Plans m = Calms PlanSteps m

steps_then : {A B : Type 0} (m : StepScript A) (f : A → StepScript B) → Steps m → ((a : A) → Steps (f a)) → Steps (m >>= f)
steps_then m f h k = calms_then Anything Anything m f h (λ a any. k a)

-- a part over memory, and what is done behind it
memory_then : {A B : Type 0} (P : B → Type 0) (m : MemoryScript A) (f : A → StepScript B) → Acts m → ((a : A) → Calms P (f a)) → Calms P (memory_part m >>= f)
memory_then P m f h k = calms_then Anything P (memory_part m) f (memory_calms Anything m h) (λ a any. k a)

-- evaluation, and what is done behind it
reads_then : {A B : Type 0} (P : B → Type 0) (m : ReadScript A) (f : A → StepScript B) → Reads m → ((a : A) → Calms P (f a)) → Calms P (memory_part (reading_part m) >>= f)
reads_then P m f h k = memory_then P (reading_part m) f (reading_calms Anything m h) k

found_then : {A B : Type 0} (P : B → Type 0) (o : Option A) (f : A → StepScript B) → ((a : A) → Calms P (f a)) → Calms P (found o >>= f)
found_then P None f k = tt
found_then P (Some x) f k = k x

-- ---- intrinsics

abbrev Operates : Operation → Type 0
Operates operating = Plans operating

instantly : (script : StepScript (Option Val)) → Steps script → Operates (instant script)
instantly script h = λ picks. h

assuming_steps : (b : Bool) → Steps (assuming b)
assuming_steps true = tt
assuming_steps false = refl

texts_read : (types : List Ty) (args : List Val) → Reads (texts_of types args)
texts_read [] [] = tt
texts_read [] (v ∷ vs) = tt
texts_read (t ∷ ts) [] = tt
texts_read (t ∷ ts) (v ∷ vs) =
    calms_then Anything Anything (or_ill_formed (text_of t v)) _ (found_reads (text_of t v)) (λ text any. calms_then Anything Anything (texts_of ts vs) _ (texts_read ts vs) (λ texts any2. tt))

-- an allocation at the address that is picked
abbrev at_pick : ℕ → ℕ → ℕ → StepScript (Option Val)
at_pick size align a = Ask (OfMemory (Allocate Heap size align a)) (λ p. Done (Some (val.Ptr p)))

allocating_operates : (size align : ℕ) → Operates (allocating size align)
allocating_operates size align = by (nat_lt (2 ^ 63 - 1) size) (is_power_of_two align)
  where
    at_address : PlanSteps (with_pick (Address size align) (at_pick size align))
    at_address [] = tt
    at_address (a ∷ []) = λ p. tt
    at_address (a ∷ b ∷ picks) = tt

    by : (large power : Bool) → Operates (if large then Undefined (plainly SizeTooLarge) else (if power then Done (with_pick (Address size align) (at_pick size align)) else Undefined (plainly BadAlign)))
    by true power = refl
    by false true = at_address
    by false false = refl

releasing_steps : (l : ℕ) (waits : Bool) → PlanSteps (releasing l waits)
releasing_steps l true [] = tt
releasing_steps l true (u ∷ []) = λ x. tt
releasing_steps l true (u ∷ v ∷ picks) = tt
releasing_steps l false picks = λ x. tt

loaded_steps : (t : Ty) (p : Pointer) (o : Option ℕ) → Steps (memory_part (reading_part (loaded (meaningless t p) o)))
loaded_steps t p None = refl
loaded_steps t p (Some n) = tt

modify_steps : (at : Val) (t : Ty) (change : ℕ → Option ℕ) → Steps (modify at t change)
modify_steps at t change = found_then Anything (pointer_in (out-Val at)) _ (λ p n. tt)

fetch_operates : (op : Intrinsic) (at : Val) (t : Ty) (v : Val) → Operates (fetch op at t v)
fetch_operates op at t v =
    instantly _ (found_then Anything (integer_in (out-Ty t)) _ (λ int. found_then Anything (number_in (out-Val v)) _ (λ k. modify_steps at t (fetched op int k))))

operation_operates : (op : Intrinsic) (args : List Val) (types : List Ty) (result : Option Ty) → Operates (operation op args types result)
operation_operates = of_operation Operates (record {
  assumes = λ v. instantly _ (found_then Anything (truth_in (out-Val v)) assuming assuming_steps);
  prints = λ types args. instantly _ (reads_then Anything (texts_of types args) _ (texts_read types args) (λ texts x. tt));
  allocates = λ size align. found_then PlanSteps (number_in (out-Val size)) _
      (λ s. found_then PlanSteps (number_in (out-Val align)) _ (λ a. allocating_operates s a));
  deallocates = λ what size align. instantly _ (found_then Anything (pointer_in (out-Val what)) _
      (λ p. found_then Anything (number_in (out-Val size)) _ (λ s. found_then Anything (number_in (out-Val align)) _ (λ a x. tt))));
  joins = λ thread. instantly _ (found_then Anything (number_in (out-Val thread)) _ (λ u x. tt));
  creates = λ picks l. tt;
  acquires = λ lock. instantly _ (found_then Anything (number_in (out-Val lock)) _ (λ l x. tt));
  releases = λ lock. found_then PlanSteps (number_in (out-Val lock)) _ (λ l waits. releasing_steps l waits);
  stores = λ at t v. instantly _ (found_then Anything (pointer_in (out-Val at)) _ (λ p x. tt));
  loads = λ at t. instantly _ (found_then Anything (pointer_in (out-Val at)) _ (λ p bytes. loaded_steps t p (number_of bytes)));
  exchanges = λ at t old new. instantly _ (found_then Anything (number_in (out-Val old)) _
      (λ a. found_then Anything (number_in (out-Val new)) _ (λ b. modify_steps at t (exchanged a b))));
  fetches = fetch_operates;
  broken = tt;
})

-- ---- a step

module _ (own : Own) where
  onward_steps : (o : Onward) → Steps {A = Turn} (onward own o)
  onward_steps (GoesOn s) = tt
  onward_steps (EndsThread s) = λ x. tt
  onward_steps Exits = tt
  onward_steps Aborts = tt

  frame_step_plans : (look : Look) → Plans (frame_step look own)
  frame_step_plans look =
      calms_then PlanActs PlanSteps (memory_part (reading_part (frame_plan look own.thread own.stack))) _
      (memory_calms PlanActs (reading_part (frame_plan look own.thread own.stack)) (reading_calms PlanActs (frame_plan look own.thread own.stack) (frame_plans look own.thread own.stack)))
      (λ plan h picks. memory_then Anything (plan.go picks) (onward own) (h picks) (λ o. onward_steps o))

module _ (own : Own) (d : DueDo) (o : Operands) where
  finishing_steps : (v : Option Val) (started : Option Own) → Steps {A = Turn} (finishing own d o v started)
  finishing_steps v started = memory_then Anything (finish own.stack d o v) _ (finish_acts own.stack d o v) (λ s. tt)

  finished_plans : (operating : Operation) → Operates operating → Plans (finished own d o operating)
  finished_plans operating h = calms_then PlanSteps PlanSteps operating _ h (λ plan k picks. steps_then (plan.go picks) _ (k picks) (λ v. finishing_steps v None))

  payload_operates : (payloads : List Pointer) → Operates (last_payload payloads)
  payload_operates [] = refl
  payload_operates (p ∷ payloads) = instantly (Done (Some (val.Ptr p))) tt

  start_steps : (number : ℕ) (fn : Function) (argument : Val) (picks : List ℕ) → Steps {A = Turn} (start own d o number fn argument picks)
  start_steps number fn argument picks =
      memory_then Anything (enter number (Some fn) (argument ∷ []) picks) _ (enter_acts number (Some fn) (argument ∷ []) picks) (λ frame thread. finishing_steps (Some (val.Int thread)) (Some (new_thread thread frame)))

  types_plans : (number : ℕ) (fn : Function) (argument : Val) (types : Option (List Ty)) → Plans (spawn_types own d o number fn argument types)
  types_plans number fn argument None = tt
  types_plans number fn argument (Some types) = by (same_types thread_types types)
    where
      by : (b : Bool) → Plans (if b then Done (record { creates = CreatesThread; asks = storage_asks types; go = start own d o number fn argument }) else Undefined (plainly SignatureMismatch))
      by true = start_steps number fn argument
      by false = refl

  function_plans : (number : ℕ) (argument : Val) (fn : Option Function) → Plans (spawn_function own d o number argument fn)
  function_plans number argument None = tt
  function_plans number argument (Some fn) = types_plans number fn argument (kept_types fn)

  module _ (look : Look) where
    number_plans : (argument : Val) (n : Option ℕ) → Plans (spawn_number look own d o argument n)
    number_plans argument None = refl
    number_plans argument (Some number) = function_plans number argument (slice_get look.program.functions number)

    spawn_plans : (args : List Val) → Plans (spawn look own d o args)
    spawn_plans (callee ∷ argument ∷ []) = found_then PlanSteps (pointer_in (out-Val callee)) _ (λ c. number_plans argument (callee_of look.functions c))
    spawn_plans _ = tt

    operated_plans : (op : Intrinsic) → Plans (operated look own d o op)
    operated_plans intrinsic.Spawn = spawn_plans o.args
    operated_plans intrinsic.Payload = finished_plans (last_payload own.stack.payloads) (payload_operates own.stack.payloads)
    operated_plans op = finished_plans (operation op o.args o.arg_types o.result_type) (operation_operates op o.args o.arg_types o.result_type)

do_step_plans : (look : Look) (own : Own) (d : DueDo) → Plans (do_step look own d)
do_step_plans look own d = reads_then PlanSteps (operands look d) _ (operands_read look d) (λ o. operated_plans own d o look d.op)

-- THE STEP OF A THREAD
step_plans : (look : Look) (own : Own) → Plans (own_step look own)
unfolding own_step
step_plans look own = by (next_do look own.stack)
  where
    by : (o : Option DueDo) → Plans (step_due look own o)
    by None = frame_step_plans own look
    by (Some d) = do_step_plans look own d

-- the step and what its plan does, as one
pub whole_steps : (look : Look) (own : Own) (picks : List ℕ) → Calms {A = Turn} Anything (own_step look own >>= λ plan. plan.go picks)
whole_steps look own picks = calms_then PlanSteps Anything (own_step look own) _ (step_plans look own) (λ plan h. h picks)
