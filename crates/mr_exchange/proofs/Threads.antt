-- The step of a thread tells what it does.
use Rattle.mr_exchange.proofs.Common.{◌≡◌, ℕ, refl, sym, subst, arith, List, [], ◌∷◌, Bool, true, false, Option, Some, None, if◌then◌else◌, slice_get, plainly, Function, Ty, Pointer, Spawn, Val, out-Val, Done, Undefined, MemoryScript, Plan, callee_of, enter, kept_types, same_types, storage_asks, GoesOn, Look, Onward, addresses, IsSpawn, IsStarted, Own, own_step, pointer_in}
use Rattle.mr_ast.specs.declared.program.Intrinsic.{Intrinsic}
use Rattle.mr_base.specs.declared.reason.Reason.TheVariants.{SignatureMismatch}
use Rattle.mr_exchange.specs.PlanMachine.{CreatesNothing, CreatesThread, Creation}
use Rattle.mr_start.specs.FrameFrames.{Aborts, EndsThread, Exits}
use Rattle.mr_start.specs.FrameOperations.{DueDo, Operands, finish, next_do, operands, store_result}
use Rattle.mr_start.specs.FrameSteps.{frame_plan}
use Rattle.mr_start.proofs.FrameQuietChanges.{store_quiet}
use Rattle.mr_start.specs.IntrOperations.{Operation, operation}
use Rattle.mr_start.specs.Steps.{TurnPlan, do_step, finished, finishing, frame_step, in_step, last_payload, new_thread, onward, operated, spawn, spawn_function, spawn_number, spawn_types, start, step_due, thread_types}
use Rattle.mr_ast.specs.declared.program.Intrinsic.TheVariants as intrinsic
use Rattle.mr_value.specs.declared.val.Val.TheVariants as val
use Rattle.mr_exchange.proofs.PlanQuietRuns.{IsQuiet}
use Rattle.mr_exchange.proofs.Calls.{enters}
use Rattle.mr_exchange.proofs.FrameSteps.{FrameTells, frame_tells}
use Rattle.mr_exchange.proofs.Intrinsics.{OperationTells, found_then, instant_tells, operation_tells}
use Rattle.mr_exchange.proofs.Marks.{Marks, NewRanges, marked, unmarked}
use Rattle.mr_exchange.proofs.Parts.{makes_behind, makes_first, reads_any, reads_then}
use Rattle.mr_exchange.proofs.Tells.{Any-single, OpTells, PlanTells, Tells, TurnTells, no_waiter, one_event, tells_end, tells_quiet}
use Rattle.mr_exchange.proofs.Tracked.{Tracks, tracks_then}

-- the plan of a turn tells what it does
abbrev pub StepTells : TurnPlan → Type 0
StepTells script = Tracks marked (PlanTells TurnTells) unmarked script

-- ---- a frame's step

module _ (own : Own) where
  -- how the thread goes on notes nothing more of both; the end of a thread is no event
  onward_tells : (ranges : NewRanges) (o : Onward) → Tracks marked (TurnTells CreatesNothing ranges) (([], 0), ranges) (onward own o)
  onward_tells ranges (GoesOn s) = (tells_quiet ranges, tt)
  onward_tells ranges (EndsThread s) = λ x. (tells_end ranges, tt)
  onward_tells ranges Exits = tt
  onward_tells ranges Aborts = tt

  -- a frame's plan, as a part of a step
  in_step_tells : (plan : Plan (MemoryScript Onward)) → FrameTells plan → PlanTells TurnTells (in_step own plan) unmarked
  in_step_tells plan h = record {
    looks = λ l w. absurd (h.none_waits l w);
    acts = λ picks.
        let ranges : NewRanges = addresses plan.asks picks in
        subst (λ (c : Creation). Tracks marked (TurnTells c ranges) unmarked ((in_step own plan).go picks)) (sym h.nothing)
        (makes_first (TurnTells CreatesNothing ranges) unmarked ranges (plan.go picks) (onward own) (h.makes picks) (λ o. onward_tells ranges o));
  }

  frame_step_tells : (look : Look) → StepTells (frame_step look own)
  frame_step_tells look = reads_then FrameTells (PlanTells TurnTells) unmarked (frame_plan look own.thread own.stack) _ (frame_tells look own.thread own.stack) (λ plan h. in_step_tells plan h)

-- ---- intrinsics

-- the store of a result makes no allocation
result_quiet : (p : Option Pointer) (t : Option Ty) (v : Option Val) → IsQuiet (store_result p t v)
result_quiet None None None = tt
result_quiet None None (Some v) = tt
result_quiet None (Some t) v = tt
result_quiet (Some p) None v = tt
result_quiet (Some p) (Some t) None = tt
result_quiet (Some p) (Some t) (Some v) = store_quiet t p v

module _ (own : Own) (d : DueDo) (o : Operands) where
  -- what was told is told behind the store of the value
  finishing_tells : (v : Option Val) (started : Option Own) (creation : Creation) (ranges : NewRanges) (e : Marks) → Tells creation ranges e → IsStarted started e.0.0 → Tracks marked (TurnTells creation ranges) e (finishing own d o v started)
  finishing_tells v started creation ranges e told is_started =
      makes_first (TurnTells creation ranges) e e.1 (finish own.stack d o v) _
      (makes_behind e.1 e.1 (store_result o.result o.result_type v) _ (result_quiet o.result o.result_type v) (λ u. refl))
      (λ s. (told, is_started))

  -- an operation, and its end
  finished_tells : (operating : Operation) → OperationTells operating → StepTells (finished own d o operating)
  finished_tells operating h =
      tracks_then marked (PlanTells OpTells) (PlanTells TurnTells) unmarked operating _ h
      (λ plan e told. record {
        looks = told.looks;
        acts = λ picks.
            let ranges : NewRanges = addresses plan.asks picks in
            tracks_then marked (OpTells plan.creates ranges) (TurnTells plan.creates ranges) e (plan.go picks) _ (told.acts picks)
            (λ v w t. finishing_tells v None plan.creates ranges w t tt);
      })

  -- the look at a payload
  payload_tells : (payloads : List Pointer) → OperationTells (last_payload payloads)
  payload_tells [] = tt
  payload_tells (p ∷ payloads) = instant_tells (Done (Some (val.Ptr p))) (tells_quiet [])

  -- ---- the start of a thread

  -- The storage of its function is that of a call, and the one event is its start, which no store of its number adds to.
  start_tells : (number : ℕ) (fn : Function) (argument : Val) (types : List Ty) → kept_types fn ≡ Some types → (picks : List ℕ)
      → Tracks marked (TurnTells CreatesThread (addresses (storage_asks types) picks)) unmarked (start own d o number fn argument picks)
  start_tells number fn argument types typed picks =
      let ranges : NewRanges = addresses (storage_asks types) picks in
      makes_first (TurnTells CreatesThread ranges) unmarked ranges (enter number (Some fn) (argument ∷ []) picks) _ (enters [] number fn types typed (argument ∷ []) picks)
      (λ frame thread. finishing_tells (Some (val.Int thread)) (Some (new_thread thread frame)) CreatesThread ranges ((Spawn thread ∷ [], 1), ranges)
      (record { allocates = refl; one_event = one_event (Spawn thread); creates = Any-single IsSpawn (Spawn thread) tt; once = omega arith })
      (Any-single IsSpawn (Spawn thread) tt))

  typed_tells : (number : ℕ) (fn : Function) (argument : Val) (types : Option (List Ty)) → kept_types fn ≡ types → StepTells (spawn_types own d o number fn argument types)
  typed_tells number fn argument None typed = tt
  typed_tells number fn argument (Some types) typed = by_test (same_types thread_types types)
    where
      by_test : (b : Bool) → StepTells (if b then Done (record { creates = CreatesThread; asks = storage_asks types; go = start own d o number fn argument }) else Undefined (plainly SignatureMismatch))
      by_test true = record { looks = λ l w. absurd (no_waiter l types w); acts = start_tells number fn argument types typed }
      by_test false = tt

  module _ (look : Look) where
    numbered_tells : (argument : Val) (n : Option ℕ) → StepTells (spawn_number look own d o argument n)
    numbered_tells argument None = tt
    numbered_tells argument (Some number) = by_function (slice_get look.program.functions number)
      where
        by_function : (g : Option Function) → StepTells (spawn_function own d o number argument g)
        by_function None = tt
        by_function (Some fn) = typed_tells number fn argument (kept_types fn) refl

    -- `spawn`
    spawn_tells : (args : List Val) → StepTells (spawn look own d o args)
    spawn_tells (callee ∷ argument ∷ []) = found_then (PlanTells TurnTells) unmarked (pointer_in (out-Val callee)) _ (λ c. numbered_tells argument (callee_of look.functions c))
    spawn_tells _ = tt

    operated_tells : (op : Intrinsic) → StepTells (operated look own d o op)
    operated_tells intrinsic.Spawn = spawn_tells o.args
    operated_tells intrinsic.Payload = finished_tells (last_payload own.stack.payloads) (payload_tells own.stack.payloads)
    operated_tells op = finished_tells (operation op o.args o.arg_types o.result_type) (operation_tells op o.args o.arg_types o.result_type)

do_step_tells : (look : Look) (own : Own) (d : DueDo) → StepTells (do_step look own d)
do_step_tells look own d = reads_any (PlanTells TurnTells) unmarked (operands look d) _ (λ o. operated_tells own d o look d.op)

-- THE STEP OF A THREAD
pub step_tells : (look : Look) (own : Own) → StepTells (own_step look own)
unfolding own_step
step_tells look own = by_due (next_do look own.stack)
  where
    by_due : (o : Option DueDo) → StepTells (step_due look own o)
    by_due None = frame_step_tells own look
    by_due (Some d) = do_step_tells look own d
