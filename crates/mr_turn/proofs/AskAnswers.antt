-- What the code tells of what a step asks for, by its parts.
use Rattle.mr_turn.proofs.Common.{◌≡◌, ℕ, refl, sym, ap, ap₂, ◌∙◌, subst, List, [], ◌∷◌, true, false, Option, Some, None, Result, Ok, Err, option_map, same_Some, Stop, Intrinsic, Ty, Pointer, Reason, Memory, Ask, Address, Val, Went, Refused, on, run, Tables, Seen, CreatesThread, needs_of, no_needs, Notes, start_notes, Shared, answer, moved_to, DueDo, Operands, OperandsFit, next_do, nothing_seen, same_types, storage_asks, operands_of, argued, Look, look_of, stack_of, DoCall, Fits, IsOperation, shared_of, TellsNeeds, Operation, operation, Own, operated, thread_types, AsksAnswer, step_needs, do_planned, own_of}
use Rattle.std.proofs.lemmas.List.{append-nil}
use Rattle.mr_intr.specs.Needs.{asks_of, creation_of}
use Rattle.mr_intr.specs.declared.need.Needs.{Needs}
use Rattle.mr_start.specs.Steps.{last_payload}
use Rattle.mr_frame.specs.PlanLegal.{Fault}
use Rattle.mr_turn.specs.Asking.{AsksFunction, IsAsked, bare_fault, do_needs}
use Rattle.mr_frame.proofs.CallSafe.{equal_types}
use Rattle.mr_ast.specs.declared.program.Intrinsic.TheVariants as intrinsic
use Rattle.mr_frame.specs.declared.look.Look.{Look as KeptLook}
use Rattle.mr_frame.specs.declared.stack.Stack.{Stack as KeptStack}
use Rattle.mr_turn.proofs.DoTurns.{argued_planned, by_operation, operation_needs}
use Rattle.mr_turn.proofs.SpawnAnswers.{thread_asks}
use Rattle.mr_turn.proofs.SpawnTurns.{other_planned, start_planned}

-- the code that is told
pub told_code : (o : Option ℕ) (f : Option Fault) → bare_fault o ≡ f → o ≡ option_map (λ (x : Fault). x.code) f
told_code None f h = ap (option_map (λ (x : Fault). x.code)) h
told_code (Some code) f h = ap (option_map (λ (x : Fault). x.code)) h

-- nothing was asked
pub none_asked : (w : Shared) (old : List Ask) → AsksAnswer {E = Unit {0}} w no_needs old old (Ok None)
none_asked w old = (sym (append-nil old), refl)

-- no intrinsic is due
pub none_due : (o : Option DueDo) → None ≡ option_map (λ d. d.op) o → o ≡ None
none_due None h = refl
none_due (Some d) h = absurd (cc)

-- the intrinsic that is due is one
pub asked_given : (look : KeptLook) (stack : KeptStack) (call : DoCall) (op : Intrinsic) → (e : DueDo) × IsAsked look stack call e × (e.op ≡ op)
    → (d : DueDo) → next_do (look_of look) (stack_of stack) ≡ Some d → IsAsked look stack call d × (d.op ≡ op)
asked_given look stack call op (e, g, is) d due =
    subst (λ (f : DueDo). IsAsked look stack call f × (f.op ≡ op)) (same_Some e d (sym g.due ∙ due)) (g, is)

pub asked_start : (look : KeptLook) (stack : KeptStack) (call : DoCall) (number : ℕ) → (e : DueDo) × AsksFunction look stack call e number
    → (d : DueDo) → next_do (look_of look) (stack_of stack) ≡ Some d → AsksFunction look stack call d number
asked_start look stack call number (e, h) d due =
    subst (λ (f : DueDo). AsksFunction look stack call f number) (same_Some e d (sym h.asked.due ∙ due)) h

-- what the code tells of an operation that was given this
pub operands_told : (is_op op : Intrinsic) → is_op ≡ op → (o : Operands) → OperandsFit is_op o → (given : List Val) → given ≡ o.args → (r : Result Needs Reason) (thread : ℕ) (x : Tables)
    → ((types : List Ty) (place : Option Ty) (m : Memory) (n : Notes) → Fits op given types place → n.tally.thread ≡ thread → TellsNeeds r (run answer (operation op given types place) (shared_of m x, n)))
    → (m : Memory) (n : Notes) → n.tally.thread ≡ thread → TellsNeeds r (run answer (operation op o.args o.arg_types o.result_type) (shared_of m x, n))
operands_told is_op op is o fit given e r thread x h m n here =
    let fits : Fits op o.args o.arg_types o.result_type = subst (λ (y : Intrinsic). Fits y o.args o.arg_types o.result_type) is (record { fitting = fit.fits; shapes = fit.shapes }) in
    subst (λ bs. TellsNeeds r (run answer (operation op bs o.arg_types o.result_type) (shared_of m x, n))) e
    (h o.arg_types o.result_type m n (subst (λ bs. Fits op bs o.arg_types o.result_type) (sym e) fits) here)

-- ---- what an intrinsic needs, by how its run begins

module _ (look : Look) (own : Own) (d : DueDo) (o : Operands) (w : Shared × Notes) where
  -- a step that stops before it has a plan needs nothing
  pub stops_needs : (r : Stop) → do_planned look own d o w ≡ Refused r → needs_of (do_planned look own d o w) ≡ no_needs
  stops_needs r e = ap needs_of e

  -- neither does the look at a payload
  pub payload_needs : d.op ≡ intrinsic.Payload → needs_of (do_planned look own d o w) ≡ no_needs
  payload_needs is =
      operation_needs look own d o w (last_payload own.stack.payloads) (ap (λ (op : Intrinsic). operated look own d o op) is)
      ∙ by_payloads own.stack.payloads
    where
      by_payloads : (payloads : List Pointer) → needs_of (run answer (last_payload payloads) w) ≡ no_needs
      by_payloads [] = refl
      by_payloads (p ∷ payloads) = refl

  module _ (op : Intrinsic) (is : d.op ≡ op) (kind : IsOperation op) where
    abbrev script : Operation
    script = operation op o.args o.arg_types o.result_type

    needs_are : needs_of (do_planned look own d o w) ≡ needs_of (run answer script w)
    needs_are =
        operation_needs look own d o w (operation d.op o.args o.arg_types o.result_type) (by_operation look own d o w d.op (subst (λ (x : Intrinsic). IsOperation x) (sym is) kind))
        ∙ ap (λ (x : Intrinsic). needs_of (run answer (operation x o.args o.arg_types o.result_type) w)) is

    -- an operation needs what the code tells
    pub told_needs : (n : Needs) → TellsNeeds (Ok n) (run answer script w) → needs_of (do_planned look own d o w) ≡ record { creates = creation_of n.creates; asks = asks_of n.ask }
    told_needs n h = needs_are ∙ ap needs_of h.went ∙ ap₂ (λ c a. record { creates = c; asks = a }) h.creates h.asks

    -- or nothing, where it stops
    pub told_none : (r : Reason) → TellsNeeds (Err r) (run answer script w) → needs_of (do_planned look own d o w) ≡ no_needs
    told_none r h = needs_are ∙ ap needs_of h.0

-- ---- the start of a thread

module _ (look : KeptLook) (stack : KeptStack) (call : DoCall) (d : DueDo) (number thread : ℕ) (h : AsksFunction look stack call d number) (w : Shared × Notes) where
  abbrev own : Own
  own = own_of thread stack

  abbrev o : Operands
  o = operands_of call

  -- a function of a thread
  pub thread_needs : same_types thread_types h.at.types ≡ true → do_needs look stack call d thread w ≡ record { creates = CreatesThread; asks = Address 0 1 ∷ Address 8 8 ∷ [] }
  thread_needs same =
      ap needs_of (start_planned (look_of look) own d o h.is h.given_to.callee h.given_to.argument h.given_to.args w number h.at.called h.at.function h.at.there h.at.types h.at.typed same)
      ∙ ap (λ ts. record { creates = CreatesThread; asks = storage_asks ts }) (sym (equal_types thread_types h.at.types same))
      ∙ ap (λ asks. record { creates = CreatesThread; asks = asks }) thread_asks

  -- a function of other types
  pub other_needs : same_types thread_types h.at.types ≡ false → do_needs look stack call d thread w ≡ no_needs
  other_needs other =
      ap needs_of (other_planned (look_of look) own d o h.is h.given_to.callee h.given_to.argument h.given_to.args w number h.at.called h.at.function h.at.there h.at.types h.at.typed other)

-- ---- what the intrinsic is given

module _ (look : KeptLook) (stack : KeptStack) (m : Memory) (x : Tables) (thread count : ℕ) (d : DueDo) (due : next_do (look_of look) (stack_of stack) ≡ Some d) where
  abbrev pub world : Shared × Notes
  world = (shared_of m x, start_notes thread count)

  abbrev pub behind : Seen → Notes
  behind v = (moved_to world (m, record world.1.tally { accesses = v.accesses; touched = v.touched })).1

  -- it was evaluated
  pub given_needs : (call : DoCall) (v : Seen) → argued m (look_of look) d nothing_seen ≡ Went (operands_of call) v
      → step_needs look stack m x thread count ≡ do_needs look stack call d thread (shared_of m x, behind v)
  given_needs call v given =
      ap needs_of
      (argued_planned (look_of look) (own_of thread stack) d due world
      ∙ ap (λ o. on o (λ q u. do_planned (look_of look) (own_of thread stack) d q (shared_of m x, behind u))) given)

  -- its evaluation stopped
  pub stopped_needs : (r : Stop) → argued m (look_of look) d nothing_seen ≡ Refused r → step_needs look stack m x thread count ≡ no_needs
  stopped_needs r given =
      ap needs_of
      (argued_planned (look_of look) (own_of thread stack) d due world
      ∙ ap (λ o. on o (λ q u. do_planned (look_of look) (own_of thread stack) d q (shared_of m x, behind u))) given)
