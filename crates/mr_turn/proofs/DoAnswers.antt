-- What the code of an intrinsic's turn answers, by its parts.
use Rattle.mr_turn.proofs.Common.{◌≡◌, ℕ, refl, subst, sym, ap, ap₂, ◌∙◌, List, [], ◌∷◌, true, Option, Some, None, Result, Ok, Err, if◌then◌else◌, slice_get, same_Some, option_map, Stop, plainly, stop_with, Reason, Intrinsic, Ty, Pointer, NoPayload, Memory, Val, ValueFits, DueDo, Operands, OperandsFit, next_do, operands, Done, Undefined, ◌>>=◌, Outcome, Went, Refused, on, run, run_bind, Tables, seen, TellsBy, tally_of, world_of, Scene, Tally, needs_fault, Goes, Plan, needs_of, Notes, Shared, answer, moved_to, DoCall, operands_of, Seen, Stack, IsReady, look_of, stack_of, Operation, operation, IsOperation, Deed, TurnFault, EndAnswer, IsGiven, IsNoted, IsTold, do_breaks, do_comes_to, do_planned, do_turned, DeedAnswer, StopAnswer, TurnAnswer, Turned, asks_break, begun, breaks, comes_to, fault_from, own_of, picks_break, planned, printed_lines, shared_in, turn_by}
use Rattle.mr_base.specs.declared.reached.Reached.{Reached}
use Rattle.mr_value.proofs.ShapeLaws.{has_raw}
use Rattle.mr_frame.proofs.DoSafe.{do_stands, operands_safe}
use Rattle.mr_intr.proofs.OperationSafe.{result_is}
use Rattle.mr_typing.specs.Intrinsics.{fits_intrinsic, is_print}
use Rattle.mr_eval.specs.World.{World}
use Rattle.mr_frame.specs.PlanMachine.{Needs}
use Rattle.mr_eval.proofs.SafeRuns.{safe_comes}
use Rattle.mr_eval.specs.Sound.{Comes}
use Rattle.mr_frame.specs.Fits.{FitsStack, IsLook}
use Rattle.mr_intr.specs.Operations.{instant}
use Rattle.mr_intr.specs.Effects.{IsDone, Prints, operated}
use Rattle.mr_intr.specs.declared.effect.Effect.{Effect}
use Rattle.mr_ast.specs.declared.program.Intrinsic.TheVariants as intrinsic
use Rattle.mr_mem.specs.declared.fault.Fault.{Fault as MemoryFault}
use Rattle.mr_mem.specs.declared.fault.Fault.TheVariants as memory_fault
use Rattle.mr_value.specs.declared.val.Val.TheVariants as val
use Rattle.mr_ast.specs.declared.types.Ty.TheVariants as ty
use Rattle.mr_eval.specs.declared.notes.Notes.{Notes as KeptNotes}
use Rattle.mr_frame.specs.declared.look.Look.{Look as KeptLook}
use Rattle.mr_frame.specs.declared.stack.Stack.{Stack as KeptStack}
use Rattle.mr_frame.specs.Effects.{argued, finished as ended}
use Rattle.mr_intr.specs.Effects as Effects
use Rattle.mr_start.specs.Steps.{Own, Turn, finishing, last_payload, planned as plan_behind, with_stack}
use Rattle.mr_turn.specs.declared.deed.TurnFault.TheVariants as answer
use Rattle.mr_turn.specs.Turning.{TellsDeed}
use Rattle.mr_turn.proofs.DoTurns.{argued_planned, argued_turned, by_operation, finishing_run, operation_needs, operation_turned, plan_is}

-- a step that stops before it has a plan needs no pick, and may have none
pub stopped_turn : {A : Type 0} (f : TurnFault) (r : Reason) (picks : List ℕ) (s : Scene) (x : Tables) (plans : Outcome (Plan A) (Shared × Notes)) (o : Outcome Turn (Shared × Notes)) (last : Option Reached) (W : Deed → Type 0) (same : Type 0)
    → StopAnswer f r picks → plans ≡ Refused (stop_with last r) → o ≡ Refused (stop_with last r) → same → TurnAnswer (Err f) (picks_break (begun s x) plans picks) o last W same
stopped_turn (answer.Broken e) r picks s x plans o last W same h p k here = (ap (λ q. picks_break (begun s x) q picks) p ∙ h s x, here)
stopped_turn (answer.Undefined q) r picks s x plans o last W same h p k here =
    (ap (λ q. picks_break (begun s x) q picks) p ∙ ap (λ ps. asks_break s x [] ps) h.1, k ∙ ap (λ z. Refused (stop_with last z)) (sym h.0))
stopped_turn answer.Memory r picks s x plans o last W same h p k here = absurd h

-- the intrinsic that is due is one
pub given_for : (look : KeptLook) (stack : KeptStack) (s : Scene) (x : Tables) (call : DoCall) (op : Intrinsic) → (e : DueDo) × IsGiven look stack s x call e × (e.op ≡ op)
    → (d : DueDo) → next_do (look_of look) (stack_of stack) ≡ Some d → IsGiven look stack s x call d × (d.op ≡ op)
given_for look stack s x call op (e, g, is) d due =
    subst (λ (f : DueDo). IsGiven look stack s x call f × (f.op ≡ op)) (same_Some e d (sym g.due ∙ due)) (g, is)

-- ---- what the intrinsic is given

module _ (look : KeptLook) (stack : KeptStack) (s : Scene) (x : Tables) (d : DueDo) (due : next_do (look_of look) (stack_of stack) ≡ Some d) (picks : List ℕ) where
  abbrev own : Own
  own = own_of s.thread stack

  -- it was evaluated, with these notes
  module _ (n : KeptNotes) (call : DoCall) (given : argued s.memory (look_of look) d (seen s.notes) ≡ Went (operands_of call) (seen n)) where
    abbrev later : Scene
    later = record s { notes = n }

    pub given_breaks : breaks look stack s x picks ≡ do_breaks look stack later x call d picks
    given_breaks =
        ap (λ o. picks_break (begun s x) o picks)
        (argued_planned (look_of look) own d due (begun s x) ∙ ap (λ o. on o (λ q v. do_planned (look_of look) own d q (moved_to (begun s x) (s.memory, record (tally_of s) { accesses = v.accesses; touched = v.touched })))) given)

    pub given_comes : comes_to look stack s x picks ≡ do_comes_to look stack later x call d picks
    given_comes =
        argued_turned (look_of look) own d due (begun s x) picks
        ∙ ap (λ o. on o (λ q v. do_turned (look_of look) own d q picks (moved_to (begun s x) (s.memory, record (tally_of s) { accesses = v.accesses; touched = v.touched })))) given

  -- its evaluation stopped
  module _ (r : Stop) (given : argued s.memory (look_of look) d (seen s.notes) ≡ Refused r) where
    pub stopped_planned : planned (look_of look) own (begun s x) ≡ Refused r
    stopped_planned =
        argued_planned (look_of look) own d due (begun s x)
        ∙ ap (λ o. on o (λ q v. do_planned (look_of look) own d q (moved_to (begun s x) (s.memory, record (tally_of s) { accesses = v.accesses; touched = v.touched })))) given

    pub stopped_comes : comes_to look stack s x picks ≡ Refused r
    stopped_comes =
        argued_turned (look_of look) own d due (begun s x) picks
        ∙ ap (λ o. on o (λ q v. do_turned (look_of look) own d q picks (moved_to (begun s x) (s.memory, record (tally_of s) { accesses = v.accesses; touched = v.touched })))) given

-- what it was given fits it
pub operands_fit : (look : KeptLook) → IsReady look → (stack : KeptStack) → FitsStack look.program.now (stack_of stack) → (d : DueDo) → next_do (look_of look) (stack_of stack) ≡ Some d
    → (m : Memory) (v w : Seen) (o : Operands) → argued m (look_of look) d v ≡ Went o w → OperandsFit d.op o
unfolding argued
operands_fit look ready stack fits d due m v w o e =
    let is : IsLook (look_of look) = record { functions = ready.functions; globals = ready.globals } in
    subst (Comes (OperandsFit d.op)) e
    (safe_comes (OperandsFit d.op) m (operands (look_of look) d) (operands_safe (look_of look) is ready.well (stack_of stack) d (do_stands (look_of look) is ready.well (stack_of stack) d fits due)) v)

-- the intrinsic that is due, by its name
pub due_named : (o : Option DueDo) (op : Intrinsic) → Some op ≡ option_map (λ d. d.op) o → (d : DueDo) × (o ≡ Some d) × (d.op ≡ op)
due_named None op h = absurd (cc)
due_named (Some d) op h = (d, refl, same_Some d.op op (sym h))

-- ---- operations

-- what was printed, by what a deed tells
printed_told : (op : Intrinsic) (printed : List (List ℕ)) (text : List ℕ) → Prints op printed [] text → printed ≡ printed_lines (if is_print op then Some text else None)
printed_told intrinsic.Print printed text h = h.1 ∙ ap (λ t. t ∷ []) (sym h.2)
printed_told _ printed text h = h.0

module _ (look : KeptLook) (stack : KeptStack) (s : Scene) (x : Tables) (call : DoCall) (d : DueDo) (is : IsOperation d.op) (picks : List ℕ) where
  abbrev o : Operands
  o = operands_of call

  abbrev mine : Own
  mine = own_of s.thread stack

  abbrev script : Operation
  script = operation d.op o.args o.arg_types o.result_type

  abbrev is_script : Rattle.mr_start.specs.Steps.operated (look_of look) mine d o d.op ≡ Rattle.mr_start.specs.Steps.finished mine d o script
  is_script = by_operation (look_of look) mine d o (begun s x) d.op is

  -- the picks break the rule that they break for the operation
  pub operation_breaks : do_breaks look stack s x call d picks ≡ needs_fault (shared_in s x) s.thread s.count (needs_of (run answer script (begun s x))) picks
  operation_breaks = ap (λ (n : Needs). needs_fault (shared_in s x) s.thread s.count n picks) (operation_needs (look_of look) mine d o (begun s x) script is_script)

  comes : do_comes_to look stack s x call d picks ≡ on (operated d.op o.args o.arg_types o.result_type picks (begun s x)) (λ v u. run answer (finishing mine d o v None) u)
  unfolding operated
  comes = operation_turned (look_of look) mine d o (begun s x) script is_script picks

  -- it stops before it has a plan
  pub operation_stops : (r : Stop) → run answer script (begun s x) ≡ Refused r → do_planned (look_of look) mine d o (begun s x) ≡ Refused r
  unfolding do_planned
  operation_stops r e =
      plan_is (look_of look) mine d o (begun s x) script is_script
      ∙ ap (λ p. on p (λ plan v. Went (plan_behind plan (λ y. finishing mine d o y None)) v)) e

  -- the operation itself stops
  pub operation_refused : (r : Stop) → operated d.op o.args o.arg_types o.result_type picks (begun s x) ≡ Refused r → do_comes_to look stack s x call d picks ≡ Refused r
  operation_refused r e = comes ∙ ap (λ p. on p (λ v u. run answer (finishing mine d o v None) u)) e

  unfolding_refused : (r : Stop) → run answer script (begun s x) ≡ Refused r → operated d.op o.args o.arg_types o.result_type picks (begun s x) ≡ Refused r
  unfolding operated
  unfolding_refused r e = run_bind answer script (λ plan. plan.go picks) (begun s x) ∙ ap (λ p. on p (λ plan v. run answer (plan.go picks) v)) e

  pub operation_comes : (r : Stop) → run answer script (begun s x) ≡ Refused r → do_comes_to look stack s x call d picks ≡ Refused r
  operation_comes r e = operation_refused r (unfolding_refused r e)

  -- it goes on, and then ends
  module _ (e : Effect) (s' : Scene) (x' : Tables) (text : List ℕ) (done : IsDone d.op e (operated d.op o.args o.arg_types o.result_type picks (begun s x)) s' x' [] text) where
    abbrev behind : Shared × Notes
    behind = (shared_in s' x', done.notes)

    ends : do_comes_to look stack s x call d picks ≡ on (ended (stack_of stack) d o e.value (world_of s')) (λ k z. Went (Goes (with_stack mine k) None) (moved_to behind z))
    ends =
        comes ∙ ap (λ p. on p (λ v u. run answer (finishing mine d o v None) u)) done.went
        ∙ finishing_run mine d o e.value None behind
        ∙ ap (λ (t : Tally). on (ended (stack_of stack) d o e.value (s'.memory, t)) (λ k z. Went (Goes (with_stack mine k) None) (moved_to behind z))) done.tally

    pub end_refused : (r : Stop) → ended (stack_of stack) d o e.value (world_of s') ≡ Refused r → do_comes_to look stack s x call d picks ≡ Refused r
    end_refused r h = ends ∙ ap (λ p. on p (λ k z. Went (Goes (with_stack mine k) None) (moved_to behind z))) h

    pub operation_done : (threads : ℕ) (stack' : KeptStack) (s'' : Scene) (deed : Deed) → ended (stack_of stack) d o e.value (world_of s') ≡ Went (stack_of stack') (world_of s'') → IsTold d.op e text deed
        → Turned mine threads (do_comes_to look stack s x call d picks) deed stack' s'' x'
    operation_done threads stack' s'' deed h told = record {
      notes = record done.notes { tally = tally_of s'' };
      goes =
          ends ∙ ap (λ p. on p (λ k z. Went (Goes (with_stack mine k) None) (moved_to behind z))) h
          ∙ ap₂ (λ f st. Went (turn_by f mine stack' (option_map (own_of threads) st)) (shared_in s'' x', record done.notes { tally = tally_of s'' })) (sym told.flow) (sym told.started);
      tally = refl;
      event = done.event ∙ sym told.noted;
      ended = done.going ∙ sym (ap Rattle.mr_turn.specs.Turning.is_end told.flow);
      woken = done.woken ∙ sym told.awakened;
      printed = printed_told d.op done.notes.printed text done.printed ∙ ap printed_lines (sym told.text);
    }

-- ---- the end of an intrinsic

-- a stack that can't store the result
pub ended_refused : (f : MemoryFault) (o : Outcome Stack World) (k : Stack) (w : World) (last : Option Reached) (IsSo : Deed → Type 0) → TellsBy {X = Unit {0}} (λ u. k) (Err f) o w last → EndAnswer (Err (fault_from f)) o k w last IsSo
ended_refused (memory_fault.Undefined r) o k w last IsSo h = h
ended_refused memory_fault.Memory o k w last IsSo h = tt

-- a deed that is so, of an intrinsic that ended
pub told_ends : (r : Result Deed TurnFault) (o : Outcome Stack World) (k : Stack) (w : World) (last : Option Reached) (IsSo : Deed → Type 0) → o ≡ Went k w → TellsDeed r IsSo → EndAnswer r o k w last IsSo
told_ends (Ok d) o k w last IsSo went h = (went, h)
told_ends (Err e) o k w last IsSo went h = subst (λ (g : TurnFault). EndAnswer (Err g) o k w last IsSo) (sym h) tt

-- what is found out of a deed by its end
pub end_is_deed : (r : Result Deed TurnFault) (inner : Outcome Stack World) (k : Stack) (w : World) (last : Option Reached) (IsSo W : Deed → Type 0) (o : Outcome Turn (Shared × Notes))
    → EndAnswer r inner k w last IsSo → ((d : Deed) → inner ≡ Went k w → IsSo d → W d) → ((q : Stop) → inner ≡ Refused q → o ≡ Refused q) → DeedAnswer r o last W
end_is_deed (Ok d) inner k w last IsSo W o h goes stops = goes d h.0 h.1
end_is_deed (Err (answer.Broken e)) inner k w last IsSo W o h goes stops = absurd h
end_is_deed (Err (answer.Undefined q)) inner k w last IsSo W o h goes stops = stops (stop_with last q) h
end_is_deed (Err answer.Memory) inner k w last IsSo W o h goes stops = tt

-- an operation that stops
pub operated_refused : (f : MemoryFault) (op : Intrinsic) (inner : Outcome (Option Val) (Shared × Notes)) (s : Scene) (x : Tables) (old new : List ℕ) → Effects.Does op (Err f) inner s x old new
    → (r : Reason) → f ≡ memory_fault.Undefined r → inner ≡ Refused (stop_with s.notes.refused r)
operated_refused f op inner s x old new h r e = (subst (λ (g : MemoryFault). Effects.Does op (Err g) inner s x old new) e h).0

-- ---- payload

-- a payload fits its place
pub payload_fits : (op : Intrinsic) (o : Operands) (p : Pointer) → op ≡ intrinsic.Payload → OperandsFit op o → ValueFits o.result_type (Some (val.Ptr p))
payload_fits op o p is fit = by_types o.arg_types o.result_type (ap (λ (x : Intrinsic). fits_intrinsic x o.arg_types o.result_type) (sym is) ∙ fit.fits)
  where
    by_types : (types : List Ty) (result : Option Ty) → fits_intrinsic intrinsic.Payload types result ≡ true → ValueFits result (Some (val.Ptr p))
    by_types [] result fits = subst (λ r. ValueFits r (Some (val.Ptr p))) (sym (result_is ty.Raw result fits)) (val.Ptr p, refl, has_raw p)
    by_types (a ∷ types) result fits = absurd (cc)

module _ (look : KeptLook) (stack : KeptStack) (s : Scene) (x : Tables) (call : DoCall) (d : DueDo) (is : d.op ≡ intrinsic.Payload) (picks : List ℕ) where
  abbrev given : Operands
  given = operands_of call

  abbrev thread_own : Own
  thread_own = own_of s.thread stack

  abbrev last : Operation
  last = last_payload (stack_of stack).payloads

  abbrev is_last : Rattle.mr_start.specs.Steps.operated (look_of look) thread_own d given d.op ≡ Rattle.mr_start.specs.Steps.finished thread_own d given last
  is_last = ap (λ (op : Intrinsic). Rattle.mr_start.specs.Steps.operated (look_of look) thread_own d given op) is

  no_payload : (payloads : List Pointer) → slice_get payloads 0 ≡ None → last_payload payloads ≡ Undefined (plainly NoPayload)
  no_payload [] h = refl
  no_payload (p ∷ payloads) h = absurd (cc)

  a_payload : (payloads : List Pointer) (p : Pointer) → slice_get payloads 0 ≡ Some p → last_payload payloads ≡ instant (Done (Some (val.Ptr p)))
  a_payload [] p h = absurd (cc)
  a_payload (q ∷ payloads) p h = ap (λ (u : Pointer). instant (Done (Some (val.Ptr u)))) (same_Some q p h)

  -- none is there
  pub payload_stops : slice_get (stack_of stack).payloads 0 ≡ None → do_planned (look_of look) thread_own d given (begun s x) ≡ Refused (plainly NoPayload)
  unfolding do_planned
  payload_stops h =
      plan_is (look_of look) thread_own d given (begun s x) last is_last
      ∙ ap (λ (t : Operation). on (run answer t (begun s x)) (λ plan v. Went (plan_behind plan (λ y. finishing thread_own d given y None)) v)) (no_payload (stack_of stack).payloads h)

  pub payload_comes : slice_get (stack_of stack).payloads 0 ≡ None → do_comes_to look stack s x call d picks ≡ Refused (plainly NoPayload)
  payload_comes h =
      operation_turned (look_of look) thread_own d given (begun s x) last is_last picks
      ∙ ap (λ (t : Operation). on (run answer (t >>= λ plan. plan.go picks) (begun s x)) (λ v u. run answer (finishing thread_own d given v None) u)) (no_payload (stack_of stack).payloads h)

  -- one is there
  module _ (p : Pointer) (here : slice_get (stack_of stack).payloads 0 ≡ Some p) where
    pub payload_breaks : do_breaks look stack s x call d picks ≡ asks_break s x [] picks
    payload_breaks =
        ap (λ (n : Needs). needs_fault (shared_in s x) s.thread s.count n picks) (operation_needs (look_of look) thread_own d given (begun s x) last is_last)
        ∙ ap (λ (t : Operation). needs_fault (shared_in s x) s.thread s.count (needs_of (run answer t (begun s x))) picks) (a_payload (stack_of stack).payloads p here)

    told_payload : do_comes_to look stack s x call d picks ≡ on (ended (stack_of stack) d given (Some (val.Ptr p)) (world_of s)) (λ k z. Went (Goes (with_stack thread_own k) None) (moved_to (begun s x) z))
    told_payload =
        operation_turned (look_of look) thread_own d given (begun s x) last is_last picks
        ∙ ap (λ (t : Operation). on (run answer (t >>= λ plan. plan.go picks) (begun s x)) (λ v u. run answer (finishing thread_own d given v None) u)) (a_payload (stack_of stack).payloads p here)
        ∙ finishing_run thread_own d given (Some (val.Ptr p)) None (begun s x)

    pub payload_refused : (r : Stop) → ended (stack_of stack) d given (Some (val.Ptr p)) (world_of s) ≡ Refused r → do_comes_to look stack s x call d picks ≡ Refused r
    payload_refused r h = told_payload ∙ ap (λ q. on q (λ k z. Went (Goes (with_stack thread_own k) None) (moved_to (begun s x) z))) h

    pub payload_done : (threads : ℕ) (stack' : KeptStack) (s' : Scene) (deed : Deed) → ended (stack_of stack) d given (Some (val.Ptr p)) (world_of s) ≡ Went (stack_of stack') (world_of s') → IsNoted deed
        → Turned thread_own threads (do_comes_to look stack s x call d picks) deed stack' s' x
    payload_done threads stack' s' deed h noted = record {
      notes = (moved_to (begun s x) (world_of s')).1;
      goes =
          told_payload ∙ ap (λ q. on q (λ k z. Went (Goes (with_stack thread_own k) None) (moved_to (begun s x) z))) h
          ∙ ap₂ (λ f st. Went (turn_by f thread_own stack' (option_map (own_of threads) st)) (shared_in s' x, (moved_to (begun s x) (world_of s')).1)) (sym noted.flow) (sym noted.started);
      tally = refl;
      event = sym noted.event;
      ended = sym (ap Rattle.mr_turn.specs.Turning.is_end noted.flow);
      woken = sym noted.woken;
      printed = sym (ap (λ t. printed_lines (option_map (λ y. y.items) t)) noted.text);
    }
