-- An intrinsic that asks for nothing, whatever it is given.
use Rattle.mr_turn.proofs.Common.{◌≡◌, ℕ, refl, sym, ap, ◌∙◌, subst, List, [], false, true, Some, None, Bool, Intrinsic, Memory, Outcome, Went, Refused, Broken, on, Tables, Seen, needs_of, no_needs, Notes, Shared, DueDo, Operands, OperandsFit, next_do, nothing_seen, argued, Look, IsReady, look_of, stack_of, Fits, IsOperation, shared_of, TellsNeeds, Own, may_ask, step_needs, do_planned, own_of}
use Rattle.std.proofs.Common.{◌≢◌, true≢false}
use Rattle.mr_frame.specs.Fits.{FitsStack}
use Rattle.mr_intr.specs.declared.need.Creation.TheVariants.{Nothing}
use Rattle.mr_intr.proofs.NeedLaws.{needs_nothing}
use Rattle.mr_ast.specs.declared.program.Intrinsic.TheVariants as intrinsic
use Rattle.mr_frame.specs.declared.look.Look.{Look as KeptLook}
use Rattle.mr_frame.specs.declared.stack.Stack.{Stack as KeptStack}
use Rattle.mr_turn.proofs.AskAnswers.{behind, payload_needs, told_needs, world}
use Rattle.mr_turn.proofs.DoAnswers.{operands_fit}
use Rattle.mr_turn.proofs.DoTurns.{argued_planned}

-- what is no allocation, no release, no new lock and no start asks for nothing, once it was given what fits it
quiet_given : (look : Look) (own : Own) (d : DueDo) (o : Operands) (w : Shared × Notes) → may_ask d.op ≡ false → OperandsFit d.op o
    → needs_of (do_planned look own d o w) ≡ no_needs
quiet_given look own d o w quiet fit = by d.op refl quiet
  where
    operation : (op : Intrinsic) → d.op ≡ op → IsOperation op → op ≢ intrinsic.Allocate → op ≢ intrinsic.Release → op ≢ intrinsic.CreateLock
        → needs_of (do_planned look own d o w) ≡ no_needs
    operation op is kind a r l =
        let fits : Fits op o.args o.arg_types o.result_type =
        subst (λ (x : Intrinsic). Fits x o.args o.arg_types o.result_type) is (record { fitting = fit.fits; shapes = fit.shapes }) in
        told_needs look own d o w op is kind (record { creates = Nothing; ask = None })
        (needs_nothing op o.args o.arg_types o.result_type w (record { creates = Nothing; ask = None }) refl kind a r l fits)

    by : (op : Intrinsic) → d.op ≡ op → may_ask op ≡ false → needs_of (do_planned look own d o w) ≡ no_needs
    by intrinsic.Spawn is e = absurd (true≢false e)
    by intrinsic.Payload is e = payload_needs look own d o w is
    by op is e =
        operation op is tt (λ f. true≢false (sym (ap may_ask f) ∙ e)) (λ f. true≢false (sym (ap may_ask f) ∙ e))
        (λ f. true≢false (sym (ap may_ask f) ∙ e))

-- so its step asks for nothing, also where it stops before that
pub quiet_needs : (look : KeptLook) → IsReady look → (stack : KeptStack) → FitsStack look.program.now (stack_of stack)
    → (m : Memory) (x : Tables) (thread count : ℕ) (d : DueDo) → next_do (look_of look) (stack_of stack) ≡ Some d
    → may_ask d.op ≡ false → step_needs look stack m x thread count ≡ no_needs
quiet_needs look ready stack fits m x thread count d due quiet =
    ap needs_of (argued_planned (look_of look) (own_of thread stack) d due (world look stack m x thread count d due))
    ∙ by (argued m (look_of look) d nothing_seen) refl
  where
    by : (o : Outcome Operands Seen) → argued m (look_of look) d nothing_seen ≡ o
        → needs_of (on o (λ q u. do_planned (look_of look) (own_of thread stack) d q (shared_of m x, behind look stack m x thread count d due u))) ≡ no_needs
    by (Went q u) e = quiet_given (look_of look) (own_of thread stack) d q _ quiet (operands_fit look ready stack fits d due m nothing_seen u q e)
    by (Refused r) e = refl
    by Broken e = refl
