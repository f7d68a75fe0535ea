-- What the code of an operation whose needs are met finds and answers.
use Rattle.mr_turn.proofs.Common.{◌≡◌, ℕ, refl, sym, ap, ap₂, ◌∙◌, subst, arith, List, [], length, Option, Some, None, Result, Ok, Err, Stop, stop_with, Intrinsic, Reason, Outcome, Refused, run, Tables, world_of, Scene, Ty, Memory, Val, needs_fault, Notes, Shared, answer, ValueFits, result_fits, operands_of, finished, look_of, stack_of, DueDo, Operands, next_do, DoCall, Fits, IsOperation, shared_of, TellsNeeds, Operation, operation, Deed, TurnFault, CanEnd, EndAnswer, IsGiven, IsTold, do_breaks, do_comes_to, do_planned, DeedAnswer, Does, begun, fault_from, own_of, shared_in}
use Rattle.mr_intr.specs.Effects.{AreLawful, CanCount, FitsPlace, operated}
use Rattle.mr_intr.specs.declared.need.Needs.{Needs}
use Rattle.mr_intr.specs.declared.effect.Effect.{Effect}
use Rattle.mr_turn.specs.Doing.{MeetsNeeds}
use Rattle.mr_turn.specs.Turning.{noted}
use Rattle.mr_mem.specs.declared.fault.Fault.{Fault as MemoryFault}
use Rattle.mr_frame.specs.PlanMachine as Machine
use Rattle.mr_frame.specs.declared.look.Look.{Look as KeptLook}
use Rattle.mr_frame.specs.declared.stack.Stack.{Stack as KeptStack}
use Rattle.mr_intr.specs.Effects as Effects
use Rattle.mr_turn.proofs.DoAnswers.{end_is_deed, end_refused, given_for, operated_refused, operation_breaks, operation_comes, operation_done, operation_refused, operation_stops}
use Rattle.mr_turn.proofs.FrameAnswers.{stopped_deed}

-- what is given, by the operation's name
module _ (look : KeptLook) (stack : KeptStack) (s : Scene) (x : Tables) (call : DoCall) (d : DueDo) (g : IsGiven look stack s x call d) (op : Intrinsic) (is : d.op ≡ op) (kind : IsOperation op) (picks : List ℕ) where
  abbrev o : Operands
  o = operands_of call

  abbrev mine : IsOperation d.op
  mine = subst (λ (x : Intrinsic). IsOperation x) (sym is) kind

  -- it fits
  pub carry_fits : Fits op o.args o.arg_types o.result_type
  carry_fits = subst (λ (y : Intrinsic). Fits y o.args o.arg_types o.result_type) is (record { fitting = g.operands.fits; shapes = g.operands.shapes })

  pub carry_counts : CanCount s
  carry_counts = record { uncounted = g.uncounted; few = (let few = g.few in omega arith) }

  -- its picks break no rule
  pub carry_lawful : do_breaks look stack s x call d picks ≡ None → AreLawful op o.args o.arg_types o.result_type picks s x
  carry_lawful h = subst (λ (y : Intrinsic). AreLawful y o.args o.arg_types o.result_type picks s x) is (sym (operation_breaks look stack s x call d mine picks) ∙ h)

  abbrev script : Operation
  script = operation op o.args o.arg_types o.result_type

  -- what it needs
  pub told_needs : (given : List Val) → given ≡ o.args → (r : Result Needs Reason)
      → ((types : List Ty) (place : Option Ty) (m : Memory) (n : Notes) → Fits op given types place → n.tally.thread ≡ s.thread → TellsNeeds r (run answer (operation op given types place) (shared_of m x, n)))
      → TellsNeeds r (run answer script (begun s x))
  told_needs given e r h =
      subst (λ bs. TellsNeeds r (run answer (operation op bs o.arg_types o.result_type) (begun s x))) e
      (h o.arg_types o.result_type s.memory (noted s) (subst (λ bs. Fits op bs o.arg_types o.result_type) (sym e) carry_fits) refl)

  breaks_for : do_breaks look stack s x call d picks ≡ needs_fault (shared_in s x) s.thread s.count (Machine.needs_of (run answer script (begun s x))) picks
  breaks_for = operation_breaks look stack s x call d mine picks ∙ ap (λ (y : Intrinsic). needs_fault (shared_in s x) s.thread s.count (Machine.needs_of (run answer (operation y o.args o.arg_types o.result_type) (begun s x))) picks) is

  pub carry_needs : (n : Needs) → TellsNeeds (Ok n) (run answer script (begun s x)) → do_breaks look stack s x call d picks ≡ MeetsNeeds s x n picks
  carry_needs n h =
      breaks_for
      ∙ ap (λ p. needs_fault (shared_in s x) s.thread s.count (Machine.needs_of p) picks) h.went
      ∙ ap₂ (λ creates asks. needs_fault (shared_in s x) s.thread s.count (record { creates = creates; asks = asks }) picks) h.creates h.asks

  -- it stops before it acts
  pub carry_stops : (r : Stop) → run answer script (begun s x) ≡ Refused r → do_planned (look_of look) (own_of s.thread stack) d o (begun s x) ≡ Refused r
  carry_stops r h = operation_stops look stack s x call d mine picks r (ap (λ (y : Intrinsic). run answer (operation y o.args o.arg_types o.result_type) (begun s x)) is ∙ h)

  pub carry_comes : (r : Stop) → run answer script (begun s x) ≡ Refused r → do_comes_to look stack s x call d picks ≡ Refused r
  carry_comes r h = operation_comes look stack s x call d mine picks r (ap (λ (y : Intrinsic). run answer (operation y o.args o.arg_types o.result_type) (begun s x)) is ∙ h)

  -- what the code reads of what is given
  module _ (given : List Val) (are : given ≡ o.args) (types : List Ty) (typed : types ≡ o.arg_types) (place : Option Ty) (placed : place ≡ o.result_type) where
    pub carry_lawful_as : do_breaks look stack s x call d picks ≡ None → AreLawful op given types place picks s x
    carry_lawful_as h =
        subst (λ gs. AreLawful op gs types place picks s x) (sym are)
        (subst (λ ts. AreLawful op o.args ts place picks s x) (sym typed) (subst (λ q. AreLawful op o.args o.arg_types q picks s x) (sym placed) (carry_lawful h)))

    pub carry_done : (r : Result Effect MemoryFault) (s' : Scene) (x' : Tables) (old : List ℕ) → old ≡ [] → (new : List ℕ)
        → Effects.Does op r (operated op given types place picks (begun s x)) s' x' old new → Effects.Does op r (operated op o.args o.arg_types o.result_type picks (begun s x)) s' x' [] new
    carry_done r s' x' old none new h =
        subst (λ (n : List ℕ). Effects.Does op r (operated op o.args o.arg_types o.result_type picks (begun s x)) s' x' n new) none
        (subst (λ q. Effects.Does op r (operated op o.args o.arg_types q picks (begun s x)) s' x' old new) placed
        (subst (λ ts. Effects.Does op r (operated op o.args ts place picks (begun s x)) s' x' old new) typed
        (subst (λ gs. Effects.Does op r (operated op gs types place picks (begun s x)) s' x' old new) are h)))

  abbrev inner : Outcome (Option Rattle.mr_value.specs.declared.val.Val.Val) (Shared × Notes)
  inner = operated op o.args o.arg_types o.result_type picks (begun s x)

  same_inner : operated d.op o.args o.arg_types o.result_type picks (begun s x) ≡ inner
  same_inner = ap (λ (y : Intrinsic). operated y o.args o.arg_types o.result_type picks (begun s x)) is

  -- it stops
  pub carry_refused : (f : MemoryFault) (s' : Scene) (x' : Tables) (old new : List ℕ) (W : Deed → Type 0) → Effects.Does op (Err f) inner s' x' old new
      → DeedAnswer (Err (fault_from f)) (do_comes_to look stack s x call d picks) s'.notes.refused W
  carry_refused f s' x' old new W h =
      stopped_deed f (do_comes_to look stack s x call d picks) s'.notes.refused W
      (λ r e. operation_refused look stack s x call d mine picks (stop_with s'.notes.refused r) (same_inner ∙ operated_refused f op inner s' x' old new h r e))

  module _ (e : Effect) (s' : Scene) (x' : Tables) (text : List ℕ) (done : Effects.Does op (Ok e) inner s' x' [] text) where
    abbrev mine_done : Effects.IsDone d.op e (operated d.op o.args o.arg_types o.result_type picks (begun s x)) s' x' [] text
    mine_done = subst (λ (y : Intrinsic). Effects.IsDone y e (operated y o.args o.arg_types o.result_type picks (begun s x)) s' x' [] text) (sym is) done

    -- it can end
    pub carried_end : FitsPlace o.result_type e.value → CanEnd look stack call e.value
    carried_end fits = record {
      ready = g.ready;
      fits = g.fits;
      due = d;
      is = g.due;
      result = result_fits d.op o e.value g.operands (value_fits o.result_type e.value fits);
    }
      where
        value_fits : (t : Option Rattle.mr_ast.specs.declared.types.Ty.Ty) (v : Option Rattle.mr_value.specs.declared.val.Val.Val) → FitsPlace t v → ValueFits t v
        value_fits None v h = h
        value_fits (Some t) v h = h

    -- and ends
    pub carried : (r : Result Deed TurnFault) (stack' : KeptStack) (s'' : Scene) → EndAnswer r (finished (stack_of stack) d o e.value (world_of s')) (stack_of stack') (world_of s'') s''.notes.refused (IsTold op e text)
        → DeedAnswer r (do_comes_to look stack s x call d picks) s''.notes.refused (Does stack s x (do_comes_to look stack s x call d picks) stack' s'' x')
    carried r stack' s'' h =
        end_is_deed r (finished (stack_of stack) d o e.value (world_of s')) (stack_of stack') (world_of s'') s''.notes.refused (IsTold op e text)
        (Does stack s x (do_comes_to look stack s x call d picks) stack' s'' x') (do_comes_to look stack s x call d picks) h
        (λ deed went told. operation_done look stack s x call d mine picks e s' x' text mine_done (length x.statuses) stack' s'' deed went (subst (λ (y : Intrinsic). IsTold y e text deed) (sym is) told))
        (λ q went. end_refused look stack s x call d mine picks e s' x' text mine_done q went)

-- the operation that is due is one
pub carried_for : (look : KeptLook) (stack : KeptStack) (s : Scene) (x : Tables) (call : DoCall) (op : Intrinsic) (picks : List ℕ)
    → (e : DueDo) × IsGiven look stack s x call e × (e.op ≡ op) × (do_breaks look stack s x call e picks ≡ None)
    → (d : DueDo) → next_do (look_of look) (stack_of stack) ≡ Some d → IsGiven look stack s x call d × (d.op ≡ op)
carried_for look stack s x call op picks (e, g, is, met) d due = given_for look stack s x call op (e, g, is) d due

-- a value that fits the place, as the code reads it
pub fits_place : (p t : Option Ty) → p ≡ t → (v : Option Val) → FitsPlace p v → FitsPlace t v
fits_place p t e v h = subst (λ q. FitsPlace q v) e h
