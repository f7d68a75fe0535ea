-- The turn of a thread whose next step is an intrinsic.
use Rattle.mr_start.proofs.Common.{◌≡◌, ◌≢◌, ℕ, ◌<◌, ◌+◌, ◌^◌, refl, subst, sym, ap, ◌∙◌, arith, List, [], ◌∷◌, ◌++◌, length, Option, Some, None, Bool, true, false, slice_get_within, ◌&&◌, slice_get, if◌then◌else◌, nat_lt, and_parts, Program, Pointer, Status, Enabled, Done, Undefined, on, run, start_tally, IsSoundTables, over, creation_fault, fault, picks_fault, Goes, Notes, start_notes, Shared, answer, memory_part, tables_of, with_tables, AreHeld, Slot, no_faults, picks_length, MemoryFacts, Leaves, Left, leaves_then, memory_after, reading_after, After, after_then, FitsStack, IsLook, Frame, Look, Stack, DueDo, frame_slots, slots_with, Own, new_thread, reads, with_stack, item_there}
use Rattle.std.proofs.lemmas.List.{length-append}
use Rattle.mr_base.specs.Stops.{plainly}
use Rattle.mr_ast.specs.declared.program.Function.{Function}
use Rattle.mr_ast.specs.declared.program.Intrinsic.{Intrinsic}
use Rattle.mr_ast.specs.declared.types.IntType.TheVariants.{U32}
use Rattle.mr_ast.specs.declared.types.Ty.{Ty}
use Rattle.mr_base.proofs.Comparisons.{lt_from, lt_test}
use Rattle.mr_base.specs.declared.reason.Reason.TheVariants.{SignatureMismatch}
use Rattle.mr_base.specs.declared.thread.Event.TheVariants.{Spawn}
use Rattle.mr_frame.specs.MemMemory.{ranges_of}
use Rattle.mr_value.specs.declared.val.Val.{Val, out-Val}
use Rattle.mr_value.specs.Shape.{has_shape}
use Rattle.mr_value.proofs.ShapeLaws.{has_int, has_raw, shape_fn_ptr}
use Rattle.mr_frame.specs.TypingIntrinsics.{fits_intrinsic, gives}
use Rattle.mr_frame.specs.TypingOperands.{is_fn_ptr, is_raw}
use Rattle.mr_frame.specs.TypingWalk.{WellFormed}
use Rattle.mr_frame.proofs.TypingKindLaws.{fn_ptr_is, raw_is}
use Rattle.mr_frame.specs.EvalShapes.{HaveShapes}
use Rattle.mr_intr.specs.SyncTables.{spawned}
use Rattle.mr_intr.proofs.SyncSoundTables.{stay_sound}
use Rattle.mr_frame.specs.PlanMachine.{CreatesThread}
use Rattle.mr_frame.specs.PlanQueries.{note, woke}
use Rattle.mr_frame.proofs.PlanRooms.{behind, in_front}
use Rattle.mr_frame.specs.Calls.{behind_first, callee_of, enter, kept_types, same_types, storage_asks}
use Rattle.mr_frame.specs.Operations.{Operands, OperandsFit, finish, operands}
use Rattle.mr_frame.proofs.CallSafe.{IsFirst, enter_safe, equal_types, kept_there, position_below}
use Rattle.mr_frame.proofs.DoSafe.{DoStands, ValueFits, finish_safe, operands_safe}
use Rattle.mr_frame.proofs.Frames.{function_keeps}
use Rattle.mr_frame.proofs.StorageSteps.{enter_keeps, finish_keeps}
use Rattle.mr_intr.specs.Effects.{FitsPlace, IsOperation}
use Rattle.mr_intr.specs.Operations.{Operation, operation, pointer}
use Rattle.mr_intr.proofs.Leaving.{AfterOp, OpLeaves, OpPlan, same_left}
use Rattle.mr_intr.proofs.Operates.{operation_safe}
use Rattle.mr_intr.proofs.OperationSafe.{found_then, result_is}
use Rattle.mr_start.specs.Steps.{do_step, finished, finishing, last_payload, operated, spawn, spawn_function, spawn_number, spawn_types, start, thread_types}
use Rattle.mr_frame.specs.EvalOperators.{pointer_in}
use Rattle.mr_ast.specs.declared.program.Intrinsic.TheVariants as intrinsic
use Rattle.mr_ast.specs.declared.types.Ty.TheVariants as ty
use Rattle.mr_value.specs.declared.val.Val.TheVariants as val
use Rattle.mr_start.proofs.FrameTurn.{PlanTurns}
use Rattle.mr_start.proofs.Turns.{AfterTurn, StartedFits, fits_over, many_started, started_slots}
use Rattle.mr_sched.specs.declared.rule.ScheduleRule.TheVariants as rule

value_fits : (t : Option Ty) (v : Option Val) → FitsPlace t v → ValueFits t v
value_fits None v h = h
value_fits (Some t) v h = h

module _ (look : Look) (is : IsLook look) (well : WellFormed look.program) (s : Shared) (t c : ℕ) (own : Own) (numbered : own.thread ≡ t) (sound : IsSoundTables (tables_of s)) (enabled : slice_get s.statuses t ≡ Some Enabled) (others : List Slot)
    (d : DueDo) (stands : DoStands look is well own.stack d) where
  abbrev p : Program
  p = look.program

  abbrev begin : Shared × Notes
  begin = (s, start_notes t c)

  abbrev rooms : List Slot
  rooms = frame_slots p own.stack.frames others

  -- What an operation leaves, and a thread that it started.
  pub record OpLeft (started : Option Own) (u : Shared × Notes) : Type 0 where
    pub tables : IsSoundTables (tables_of u.0)
    pub many : length u.0.statuses ≡ length s.statuses + many_started started
    pub itself : over (slice_get u.0.statuses t) ≡ Some false
    pub other : (k : ℕ) → k ≢ t → k < length s.statuses → over (slice_get u.0.statuses k) ≡ over (slice_get s.statuses k)
    pub new_fits : StartedFits p (length s.statuses) u.0.statuses started
    pub facts : MemoryFacts s.memory t c u.0.memory u.1.tally
    pub held : AreHeld u.0.memory (started_slots p started rooms)

  started_none : (u : Shared × Notes) → OpLeaves s t c rooms u → OpLeft None u
  started_none u left = record {
    tables = left.tables;
    many = left.many ∙ plus_none (length s.statuses);
    itself = left.own;
    other = left.other;
    new_fits = tt;
    facts = left.facts;
    held = left.held;
  }
    where
      plus_none : (n : ℕ) → n ≡ n + 0
      plus_none n = omega arith

  -- its value is stored, and the thread goes on
  finishing_turn : (o : Operands) (fit : OperandsFit d.op o) (r : Option Val) (started : Option Own) (u : Shared × Notes) → FitsPlace o.result_type r → OpLeft started u → After (AfterTurn p s t c others) (run answer (finishing own d o r started) u)
  finishing_turn o fit r started u value left =
      let target : Stack → List Slot = λ (x : Stack). started_slots p started (frame_slots p x.frames others) in
      after_then answer (Left s.memory t c (FitsStack p) target u) (AfterTurn p s t c others) (memory_part (finish own.stack d o r)) (λ x. Done (Goes (with_stack own x) started)) u
      (memory_after s.memory t c (FitsStack p) target (started_slots p started rooms) (finish own.stack d o r)
      (finish_safe look is well own.stack d stands o r fit (value_fits o.result_type r value))
      (finish_keeps look is well own.stack d stands o r others (started_slots p started)) u left.facts left.held)
      (λ x w done. record {
        thread = numbered;
        tables = subst (λ (z : Shared). IsSoundTables (tables_of z)) (sym done.leaves.shared) left.tables;
        many = ap (λ (z : Shared). length z.statuses) done.leaves.shared ∙ left.many;
        own_fits = λ status e. fits_over p Enabled status x (sym left.itself ∙ ap (λ (z : Shared). over (slice_get z.statuses t)) (sym done.leaves.shared) ∙ ap over e) done.value;
        other = λ k apart lt. ap (λ (z : Shared). over (slice_get z.statuses k)) done.leaves.shared ∙ left.other k apart lt;
        new_fits = subst (λ (z : Shared). StartedFits p (length s.statuses) z.statuses started) (sym done.leaves.shared) left.new_fits;
        facts = done.leaves.facts;
        held = done.held;
      })

  -- an operation, and its end
  finished_turn : (o : Operands) (fit : OperandsFit d.op o) (operating : Operation) (u : Shared × Notes) → After (OpPlan s t c rooms o.result_type) (run answer operating u) → After (PlanTurns p s t c others) (run answer (finished own d o operating) u)
  finished_turn o fit operating u h =
      after_then answer (OpPlan s t c rooms o.result_type) (PlanTurns p s t c others) operating _ u h
      (λ plan w made picks legal.
      after_then answer (AfterOp s t c rooms o.result_type) (AfterTurn p s t c others) (plan.go picks) (λ r. finishing own d o r None) w (made picks legal)
      (λ r x done. finishing_turn o fit r None x done.0 (started_none x done.1)))

  module _ (o : Operands) (fit : OperandsFit d.op o) (v : Shared × Notes) (leaves : Leaves s.memory t c begin v) (held : AreHeld v.0.memory rooms) where
    operation_turn : (op : Intrinsic) → d.op ≡ op → IsOperation op → After (PlanTurns p s t c others) (run answer (finished own d o (operation op o.args o.arg_types o.result_type)) v)
    operation_turn op same kind =
        finished_turn o fit (operation op o.args o.arg_types o.result_type) v
        (operation_safe s t c sound enabled rooms v leaves held op kind o.arg_types o.args o.result_type fit.shapes (ap (λ (x : Intrinsic). fits_intrinsic x o.arg_types o.result_type) (sym same) ∙ fit.fits))

    -- ---- payload

    payload_turn : d.op ≡ intrinsic.Payload → After (PlanTurns p s t c others) (run answer (finished own d o (last_payload own.stack.payloads)) v)
    payload_turn same = finished_turn o fit (last_payload own.stack.payloads) v (by_payloads own.stack.payloads o.arg_types o.result_type (ap (λ (x : Intrinsic). fits_intrinsic x o.arg_types o.result_type) (sym same) ∙ fit.fits))
      where
        by_payloads : (payloads : List Pointer) (types : List Ty) (result : Option Ty) → fits_intrinsic intrinsic.Payload types result ≡ true → After (OpPlan s t c rooms result) (run answer (last_payload payloads) v)
        by_payloads [] types result fits = tt
        by_payloads (q ∷ payloads) [] result fits =
            λ picks legal. (subst (λ r. FitsPlace r (Some (val.Ptr q))) (sym (result_is ty.Raw result fits)) (val.Ptr q, refl, has_raw q), same_left s t c sound enabled rooms v v leaves held refl refl)
        by_payloads (q ∷ payloads) (a ∷ types) result fits = absurd (cc)

    -- ---- spawn

    abbrev new_own : Shared × Notes → Frame → Own
    new_own w frame = new_thread (length w.0.statuses) frame

    few_threads : creation_fault s CreatesThread ≡ None → length s.statuses < 1024
    few_threads h = by_test (nat_lt (length s.statuses) 1024) refl h
      where
        by_test : (b : Bool) → nat_lt (length s.statuses) 1024 ≡ b → (if b then None else fault rule.TooManyThreads) ≡ None → length s.statuses < 1024
        by_test true e k = lt_from (length s.statuses) 1024 e
        by_test false e k = absurd (cc)

    abbrev more : List Status
    more = s.statuses ++ Enabled ∷ []

    get_front : (k : ℕ) → k < length s.statuses → slice_get more k ≡ slice_get s.statuses k
    get_front k lt = let x = item_there s.statuses k lt in in_front s.statuses (Enabled ∷ []) k x.0 x.1 ∙ sym x.1

    get_last : slice_get more (length s.statuses) ≡ Some Enabled
    get_last = ap (slice_get more) (plus_none (length s.statuses)) ∙ behind s.statuses (Enabled ∷ []) 0 Enabled refl
      where
        plus_none : (n : ℕ) → n ≡ n + 0
        plus_none n = omega arith

    module _ (number : ℕ) (fn : Function) (there : slice_get p.functions number ≡ Some fn) (argument : Val) (shape : has_shape ty.Raw argument ≡ true) (int : o.result_type ≡ Some (ty.Int U32)) where
      started_left : (frame : Frame) (w : Shared × Notes) → IsFirst p fn (function_keeps p well number fn there) frame → Leaves s.memory t c begin w → AreHeld w.0.memory (started_slots p (Some (new_own w frame)) rooms)
          → OpLeft (Some (new_own w frame)) (with_tables w.0 (spawned (tables_of w.0)).1, woke (Some (length w.0.statuses)) (note (Spawn (length w.0.statuses)) w.1))
      started_left frame w first gone kept =
          let statuses : w.0.statuses ≡ s.statuses = ap (λ (x : Shared). x.statuses) gone.shared in
          let now : w.0.statuses ++ Enabled ∷ [] ≡ more = ap (λ l. l ++ Enabled ∷ []) statuses in
          record {
            tables = subst (λ (x : Shared). IsSoundTables (spawned (tables_of x)).1) (sym gone.shared) (stay_sound.spawn (tables_of s) sound);
            many = ap (λ l. length l) now ∙ length-append s.statuses (Enabled ∷ []);
            itself = ap (λ l. over (slice_get l t)) now ∙ ap over (get_front t (slice_get_within s.statuses t Enabled enabled)) ∙ ap over enabled;
            other = λ k d lt. ap (λ l. over (slice_get l k)) now ∙ ap over (get_front k lt);
            new_fits = (ap (λ l. length l) statuses, ap (λ l. slice_get l (length s.statuses)) now ∙ get_last, (first.fits, first.bare, tt));
            facts = gone.facts;
            held = kept;
          }

      starts : (types : List Ty) → kept_types fn ≡ Some types → types ≡ thread_types → PlanTurns p s t c others (record { creates = CreatesThread; asks = storage_asks types; go = start own d o number fn argument }) v
      starts types typed same picks legal =
          let kept = function_keeps p well number fn there in
          let parts = no_faults (creation_fault s CreatesThread) (picks_fault s.statuses (ranges_of s.memory) t c (storage_asks types) picks) legal in
          let many = picks_length s.statuses (ranges_of s.memory) t c (storage_asks types) picks parts.1 in
          let few = few_threads parts.0 in
          let shapes : HaveShapes (behind_first types) (argument ∷ []) = subst (λ ts. HaveShapes (behind_first ts) (argument ∷ [])) (sym same) (shape, tt) in
          let target : Frame → List Slot = λ (new : Frame). slots_with (slice_get p.functions new.function) new.locals ++ rooms in
          after_then answer (Left s.memory t c (IsFirst p fn kept) target v) (AfterTurn p s t c others) (memory_part (enter number (Some fn) (argument ∷ []) picks)) _ v
          (memory_after s.memory t c (IsFirst p fn kept) target rooms (enter number (Some fn) (argument ∷ []) picks) (enter_safe p fn kept number there (argument ∷ []) picks types typed many shapes) (enter_keeps p rooms number fn there (argument ∷ []) picks) v leaves.facts held)
          (λ frame w done.
          let gone = leaves_then s.memory t c begin v w leaves done.leaves in
          let size : length w.0.statuses ≡ length s.statuses = ap (λ (x : Shared). length x.statuses) gone.shared in
          let fits32 : has_shape (ty.Int U32) (val.Int (length w.0.statuses)) ≡ true = has_int U32 (length w.0.statuses) ∙ lt_test (length w.0.statuses) (2 ^ 32) (omega arith) in
          finishing_turn o fit (Some (val.Int (length w.0.statuses))) (Some (new_own w frame)) (with_tables w.0 (spawned (tables_of w.0)).1, woke (Some (length w.0.statuses)) (note (Spawn (length w.0.statuses)) w.1))
          (subst (λ r. FitsPlace r (Some (val.Int (length w.0.statuses)))) (sym int) (val.Int (length w.0.statuses), refl, fits32))
          (started_left frame w done.value gone done.held))

      typed_spawn : (types : Option (List Ty)) → kept_types fn ≡ types → After (PlanTurns p s t c others) (run answer (spawn_types own d o number fn argument types) v)
      typed_spawn None e = absurd (by_none (sym (kept_there p fn (function_keeps p well number fn there)).is ∙ e))
        where
          by_none : {xs : List Ty} → Some xs ≡ None → ⊥
          by_none h = cc
      typed_spawn (Some types) e = by_test (same_types thread_types types) refl
        where
          by_test : (b : Bool) → same_types thread_types types ≡ b
              → After (PlanTurns p s t c others) (run answer (if b then Done (record { creates = CreatesThread; asks = storage_asks types; go = start own d o number fn argument }) else Undefined (plainly SignatureMismatch)) v)
          by_test true same = starts types e (sym (equal_types thread_types types same))
          by_test false same = tt

    callee_below : (q : Pointer) (n : ℕ) → callee_of look.functions q ≡ Some n → n < length p.functions
    unfolding callee_of
    callee_below q n e = let k = position_below 0 look.functions q n e in let many = is.functions in omega arith

    spawn_turn : d.op ≡ intrinsic.Spawn → After (PlanTurns p s t c others) (run answer (spawn look own d o o.args) v)
    spawn_turn same = by_types o.arg_types o.args fit.shapes (ap (λ (x : Intrinsic). fits_intrinsic x o.arg_types o.result_type) (sym same) ∙ fit.fits)
      where
        numbered_spawn : (argument : Val) → has_shape ty.Raw argument ≡ true → o.result_type ≡ Some (ty.Int U32) → (q : Pointer) (n : Option ℕ) → callee_of look.functions q ≡ n
            → After (PlanTurns p s t c others) (run answer (spawn_number look own d o argument n) v)
        numbered_spawn argument shape int q None e = tt
        numbered_spawn argument shape int q (Some number) e =
            let fn = item_there p.functions number (callee_below q number e) in
            subst (λ (f : Option Function). After (PlanTurns p s t c others) (run answer (spawn_function own d o number argument f) v)) (sym fn.1)
            (typed_spawn number fn.0 fn.1 argument shape int (kept_types fn.0) refl)

        by_types : (types : List Ty) (args : List Val) → HaveShapes types args → fits_intrinsic intrinsic.Spawn types o.result_type ≡ true → After (PlanTurns p s t c others) (run answer (spawn look own d o args) v)
        by_types [] args shapes fits = absurd (cc)
        by_types (a ∷ []) args shapes fits = absurd (cc)
        by_types (a ∷ b ∷ []) [] shapes fits = absurd shapes
        by_types (a ∷ b ∷ []) (x ∷ []) shapes fits = absurd (shapes.1)
        by_types (a ∷ b ∷ []) (x ∷ y ∷ []) shapes fits =
            let parts = and_parts (is_fn_ptr a) (is_raw b && gives (ty.Int U32) o.result_type) fits in
            let rest = and_parts (is_raw b) (gives (ty.Int U32) o.result_type) parts.1 in
            let made = shape_fn_ptr x (subst (λ (u : Ty). has_shape u x ≡ true) (fn_ptr_is a parts.0) shapes.0) in
            let is_pointer : pointer_in (out-Val x) ≡ Some made.pointer = ap pointer_in (ap out-Val made.is ∙ val.outs-Ptr made.pointer) in
            found_then s t c sound enabled rooms v leaves held (PlanTurns p s t c others) (pointer_in (out-Val x)) made.pointer _ is_pointer
            (numbered_spawn y (subst (λ (u : Ty). has_shape u y ≡ true) (raw_is b rest.0) shapes.1.0) (result_is (ty.Int U32) o.result_type rest.1) made.pointer (callee_of look.functions made.pointer) refl)
        by_types (a ∷ b ∷ []) (x ∷ y ∷ z ∷ args) shapes fits = absurd (shapes.1.1)
        by_types (a ∷ b ∷ e ∷ types) args shapes fits = absurd (cc)

    by_op : (op : Intrinsic) → d.op ≡ op → After (PlanTurns p s t c others) (run answer (operated look own d o op) v)
    by_op intrinsic.Spawn same = spawn_turn same
    by_op intrinsic.Payload same = payload_turn same
    by_op op same = operation_turn op same tt

  -- THE TURN of an intrinsic
  pub do_turn : MemoryFacts s.memory t c s.memory (start_tally t c) → AreHeld s.memory rooms → After (PlanTurns p s t c others) (run answer (do_step look own d) begin)
  do_turn facts held =
      after_then answer (Left s.memory t c (OperandsFit d.op) (λ o. rooms) begin) (PlanTurns p s t c others) (reads (operands look d)) (λ o. operated look own d o d.op) begin
      (reading_after s.memory t c (OperandsFit d.op) rooms (operands look d) (operands_safe look is well own.stack d stands) begin facts held)
      (λ o v left. by_op o left.value v left.leaves left.held d.op refl)
