-- The turn of a thread that starts another one, by the function that it calls and the frame with which that begins.
use Rattle.mr_turn.proofs.Common.{◌≡◌, ℕ, ap, ◌∙◌, List, [], ◌∷◌, length, Some, None, Bool, true, false, slice_get, if◌then◌else◌, plainly, Function, Intrinsic, Ty, Pointer, NotAFunction, SignatureMismatch, Val, Done, Undefined, ◌>>=◌, Went, Refused, on, run, spawned, CreatesThread, Plan, Notes, Shared, StepScript, answer, with_tables, memory_then, moved_to, callee_of, enter, kept_types, same_types, storage_asks, Look, DueDo, Operands, Own, Turn, finishing, new_thread, operated, thread_types, do_planned, do_turned}
use Rattle.mr_base.specs.declared.thread.Event.TheVariants.{Spawn}
use Rattle.mr_base.specs.Script.{Ask}
use Rattle.mr_frame.specs.PlanQueries.{Start, note, tables_of, woke}
use Rattle.mr_frame.specs.Effects.{entered}
use Rattle.mr_intr.specs.Operations.{found}
use Rattle.mr_start.specs.Steps.{spawn, spawn_function, spawn_number, spawn_types, start}
use Rattle.mr_eval.specs.Operators.{pointer_in}
use Rattle.mr_ast.specs.declared.program.Intrinsic.TheVariants as intrinsic
use Rattle.mr_value.specs.declared.val.Val.TheVariants as val

module _ (look : Look) (own : Own) (d : DueDo) (o : Operands) (is : d.op ≡ intrinsic.Spawn) (c : Pointer) (argument : Val) (args : o.args ≡ val.Ptr c ∷ argument ∷ []) (w : Shared × Notes) where
  script_is : operated look own d o d.op ≡ spawn_number look own d o argument (callee_of look.functions c)
  script_is =
      ap (λ (op : Intrinsic). operated look own d o op) is
      ∙ ap (λ vs. spawn look own d o vs) args
      ∙ ap (λ p. found p >>= λ q. spawn_number look own d o argument (callee_of look.functions q)) (ap pointer_in (val.outs-Ptr c))

  -- a pointer to no function
  pub none_planned : callee_of look.functions c ≡ None → do_planned look own d o w ≡ Refused (plainly NotAFunction)
  unfolding do_planned
  none_planned e = ap (λ script. run answer script w) (script_is ∙ ap (spawn_number look own d o argument) e)

  pub none_turned : (picks : List ℕ) → callee_of look.functions c ≡ None → do_turned look own d o picks w ≡ Refused (plainly NotAFunction)
  unfolding do_turned
  none_turned picks e = ap (λ script. run answer (script >>= λ plan. plan.go picks) w) (script_is ∙ ap (spawn_number look own d o argument) e)

  module _ (number : ℕ) (called : callee_of look.functions c ≡ Some number) (fn : Function) (there : slice_get look.program.functions number ≡ Some fn) (types : List Ty) (typed : kept_types fn ≡ Some types) where
    typed_is : operated look own d o d.op ≡ spawn_types own d o number fn argument (Some types)
    typed_is =
        script_is
        ∙ ap (spawn_number look own d o argument) called
        ∙ ap (spawn_function own d o number argument) there
        ∙ ap (spawn_types own d o number fn argument) typed

    abbrev starts : Plan (StepScript Turn)
    starts = record { creates = CreatesThread; asks = storage_asks types; go = start own d o number fn argument }

    tested : (b : Bool) → same_types thread_types types ≡ b → operated look own d o d.op ≡ (if b then Done starts else Undefined (plainly SignatureMismatch))
    tested b e = typed_is ∙ ap (λ (x : Bool). if x then Done starts else Undefined (plainly SignatureMismatch)) e

    -- a function of other types
    pub other_planned : same_types thread_types types ≡ false → do_planned look own d o w ≡ Refused (plainly SignatureMismatch)
    unfolding do_planned
    other_planned e = ap (λ script. run answer script w) (tested false e)

    pub other_turned : (picks : List ℕ) → same_types thread_types types ≡ false → do_turned look own d o picks w ≡ Refused (plainly SignatureMismatch)
    unfolding do_turned
    other_turned picks e = ap (λ script. run answer (script >>= λ plan. plan.go picks) w) (tested false e)

    -- a function of a thread
    pub start_planned : same_types thread_types types ≡ true → do_planned look own d o w ≡ Went starts w
    unfolding do_planned
    start_planned e = ap (λ script. run answer script w) (tested true e)

    abbrev number_now : ℕ
    number_now = length w.0.statuses

    -- what is shared behind the start of the thread
    abbrev pub with_thread : Shared × Notes → Shared × Notes
    with_thread u = (with_tables u.0 (spawned (tables_of u.0)).1, woke (Some (length u.0.statuses)) (note (Spawn (length u.0.statuses)) u.1))

    pub start_turned : (picks : List ℕ) → same_types thread_types types ≡ true
        → do_turned look own d o picks w
        ≡ on (entered number (Some fn) (argument ∷ []) picks (w.0.memory, w.1.tally))
        (λ frame v. run answer (finishing own d o (Some (val.Int number_now)) (Some (new_thread number_now frame))) (with_thread (moved_to w v)))
    unfolding do_turned entered
    start_turned picks e =
        ap (λ script. run answer (script >>= λ plan. plan.go picks) w) (tested true e)
        ∙ memory_then (enter number (Some fn) (argument ∷ []) picks) (λ frame. Ask Start Done >>= λ thread. finishing own d o (Some (val.Int thread)) (Some (new_thread thread frame))) w
