-- The turn of a thread whose next step is an intrinsic, by what this is given, by what its operation comes to, and by how it ends.
use Rattle.mr_turn.proofs.Common.{◌≡◌, ℕ, refl, sym, ap, ◌∙◌, List, Option, Some, None, Intrinsic, Val, Done, ◌>>=◌, Outcome, Went, Refused, Broken, on, run, run_bind, reading_part, Seen, seen_of, with_seen, Goes, Plan, needs_of, Notes, Shared, StepScript, answer, memory_then, moved_to, on_then, reading_run, tallied, Look, DueDo, Operands, next_do, operands, IsOperation, Operation, operation, do_planned, do_turned, planned, turned}
use Rattle.mr_frame.specs.Operations.{finish}
use Rattle.mr_ast.specs.declared.program.Intrinsic.TheVariants as intrinsic
use Rattle.mr_frame.specs.Effects.{argued, finished as ended}
use Rattle.mr_start.specs.Steps.{Own, finished, finishing, operated, own_step, planned as plan_behind, step_due, with_stack}

-- ---- what the intrinsic is given

module _ (look : Look) (own : Own) (d : DueDo) (due : next_do look own.stack ≡ Some d) (w : Shared × Notes) where
  abbrev found : Outcome Operands Seen
  found = argued w.0.memory look d (seen_of w.1.tally)

  abbrev behind_seen : Seen → Shared × Notes
  behind_seen s = moved_to w (w.0.memory, with_seen w.1.tally s)

  step_is : run answer (own_step look own) w ≡ on found (λ o s. run answer (operated look own d o d.op) (behind_seen s))
  unfolding own_step argued
  step_is =
      ap (λ (o : Option DueDo). run answer (step_due look own o) w) due
      ∙ memory_then (reading_part (operands look d)) (λ o. operated look own d o d.op) w
      ∙ ap (λ o. on o (λ x v. run answer (operated look own d x d.op) (moved_to w v))) (reading_run (operands look d) (w.0.memory, w.1.tally))
      ∙ on_then (run (Rattle.mr_eval.specs.Reads.reading w.0.memory) (operands look d) (seen_of w.1.tally)) (tallied (w.0.memory, w.1.tally)) (λ x v. run answer (operated look own d x d.op) (moved_to w v))

  pub argued_planned : planned look own w ≡ on found (λ o s. do_planned look own d o (behind_seen s))
  unfolding planned do_planned
  argued_planned = step_is

  pub argued_turned : (picks : List ℕ) → turned look own picks w ≡ on found (λ o s. do_turned look own d o picks (behind_seen s))
  unfolding turned do_turned
  argued_turned picks =
      run_bind answer (own_step look own) (λ plan. plan.go picks) w
      ∙ ap (λ o. on o (λ plan v. run answer (plan.go picks) v)) step_is
      ∙ on_then found (λ o s. run answer (operated look own d o d.op) (behind_seen s)) (λ plan v. run answer (plan.go picks) v)
      ∙ alike found
    where
      alike : (o : Outcome Operands Seen)
          → on o (λ o s. on (run answer (operated look own d o d.op) (behind_seen s)) (λ plan v. run answer (plan.go picks) v))
          ≡ on o (λ o s. run answer (operated look own d o d.op >>= λ plan. plan.go picks) (behind_seen s))
      alike (Went o s) = sym (run_bind answer (operated look own d o d.op) (λ plan. plan.go picks) (behind_seen s))
      alike (Refused r) = refl
      alike Broken = refl

-- ---- how it ends

-- its value is stored, and the thread goes on
pub finishing_run : (own : Own) (d : DueDo) (o : Operands) (v : Option Val) (started : Option Own) (w : Shared × Notes)
    → run answer (finishing own d o v started) w ≡ on (ended own.stack d o v (w.0.memory, w.1.tally)) (λ s z. Went (Goes (with_stack own s) started) (moved_to w z))
unfolding ended
finishing_run own d o v started w = memory_then (finish own.stack d o v) (λ s. Done (Goes (with_stack own s) started)) w

-- ---- operations

module _ (look : Look) (own : Own) (d : DueDo) (o : Operands) (w : Shared × Notes) where
  module _ (operating : Operation) (is : operated look own d o d.op ≡ finished own d o operating) where
    abbrev plans : Outcome (Plan (StepScript (Option Val))) (Shared × Notes)
    plans = run answer operating w

    pub plan_is : run answer (operated look own d o d.op) w ≡ on plans (λ plan v. Went (plan_behind plan (λ x. finishing own d o x None)) v)
    plan_is = ap (λ script. run answer script w) is ∙ run_bind answer operating (λ plan. Done (plan_behind plan (λ x. finishing own d o x None))) w

    -- it needs what the operation needs
    pub operation_needs : needs_of (do_planned look own d o w) ≡ needs_of plans
    unfolding do_planned
    operation_needs = ap needs_of plan_is ∙ same plans
      where
        same : (p : Outcome (Plan (StepScript (Option Val))) (Shared × Notes)) → needs_of (on p (λ plan v. Went (plan_behind plan (λ x. finishing own d o x None)) v)) ≡ needs_of p
        same (Went plan v) = refl
        same (Refused r) = refl
        same Broken = refl

    -- and then ends
    pub operation_turned : (picks : List ℕ) → do_turned look own d o picks w ≡ on (run answer (operating >>= λ plan. plan.go picks) w) (λ x v. run answer (finishing own d o x None) v)
    unfolding do_turned
    operation_turned picks =
        run_bind answer (operated look own d o d.op) (λ plan. plan.go picks) w
        ∙ ap (λ p. on p (λ plan v. run answer (plan.go picks) v)) plan_is
        ∙ on_then plans (λ plan v. Went (plan_behind plan (λ x. finishing own d o x None)) v) (λ plan v. run answer (plan.go picks) v)
        ∙ alike plans
        ∙ sym (on_then plans (λ plan v. run answer (plan.go picks) v) (λ x v. run answer (finishing own d o x None) v))
        ∙ ap (λ p. on p (λ x v. run answer (finishing own d o x None) v)) (sym (run_bind answer operating (λ plan. plan.go picks) w))
      where
        alike : (p : Outcome (Plan (StepScript (Option Val))) (Shared × Notes))
            → on p (λ plan v. run answer (plan.go picks >>= λ x. finishing own d o x None) v) ≡ on p (λ plan v. on (run answer (plan.go picks) v) (λ x u. run answer (finishing own d o x None) u))
        alike (Went plan v) = run_bind answer (plan.go picks) (λ x. finishing own d o x None) v
        alike (Refused r) = refl
        alike Broken = refl

  -- all but the start of a thread and the look at a payload are operations
  pub by_operation : (op : Intrinsic) → IsOperation op → operated look own d o op ≡ finished own d o (operation op o.args o.arg_types o.result_type)
  by_operation intrinsic.Spawn is = absurd is
  by_operation intrinsic.Payload is = absurd is
  by_operation _ is = refl
