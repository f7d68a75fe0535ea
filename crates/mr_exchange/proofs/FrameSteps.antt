-- The step of a frame makes the allocations that it asked for, and asks for no waiter.
use Rattle.mr_exchange.proofs.Common.{◌≡◌, ℕ, refl, List, [], ◌∷◌, Bool, true, false, Option, Some, None, Any, sym, subst, if◌then◌else◌, slice_get, plainly, Function, Ty, Pointer, align_of, size_of, Address, Val, Done, Undefined, ◌>>=◌, MemoryScript, reading_part, pointer_of_value, Plan, callee_of, enter, kept_types, resume, return_from, same_types, storage_asks, unwind, GoesOn, Look, Onward, Stack, scene_in, addresses, IsWaiter}
use Rattle.mr_ast.specs.declared.expr.Place.{Place}
use Rattle.mr_ast.specs.declared.expr.Value.{Value}
use Rattle.mr_ast.specs.declared.program.BlockName.{BlockName}
use Rattle.mr_ast.specs.declared.program.Local.{Local}
use Rattle.mr_ast.specs.declared.program.Stmt.{Stmt}
use Rattle.mr_ast.specs.declared.program.Term.{Term}
use Rattle.mr_ast.specs.declared.types.Num.{Num}
use Rattle.mr_base.specs.declared.reason.Reason.TheVariants.{SignatureMismatch}
use Rattle.mr_start.specs.EvalEvaluation.{place_script, value_script, values_script}
use Rattle.mr_exchange.specs.PlanMachine.{CreatesNothing}
use Rattle.mr_start.specs.FrameCalls.{both_there, call, call_function, call_number, call_plan, calling, given_types, goes_to}
use Rattle.mr_start.specs.FrameChanges.{change, free_storage}
use Rattle.mr_start.specs.FrameSites.{AtDo, AtStatement, AtTerminator, Due, Site, due_of, site_of}
use Rattle.mr_start.specs.FrameSteps.{dead, frame_plan, live, live_at, next, plain, plan_at, plan_due, statement, terminator}
use Rattle.mr_start.specs.FrameSwitches.{switched}
use Rattle.mr_start.proofs.FrameQuietChanges.{change_quiet}
use Rattle.mr_start.proofs.FrameStorageSteps.{Leads}
use Rattle.mr_start.proofs.FrameStatements.{by_kind, changes}
use Rattle.mr_ast.specs.declared.program.Term.TheVariants as term
use Rattle.mr_exchange.proofs.PlanElementLaws.{Any-one}
use Rattle.mr_exchange.proofs.PlanQuietRuns.{reading_quiet}
use Rattle.mr_exchange.proofs.Calls.{enters, frees, resumes, returns, unwinds}
use Rattle.mr_exchange.proofs.Marks.{NewRanges}
use Rattle.mr_exchange.proofs.Parts.{Makes, leads_behind, makes_behind, makes_then}
use Rattle.mr_exchange.proofs.Tells.{Any-nil, no_waiter}

-- A plan of a frame creates no thread and no lock, asks for no waiter, and makes the allocations that it asked for.
pub record FrameTells (plan : Plan (MemoryScript Onward)) : Type 0 where
  pub nothing : plan.creates ≡ CreatesNothing
  pub none_waits : (l : ℕ) → Any (IsWaiter l) plan.asks → ⊥
  pub makes : (picks : List ℕ) → Makes [] (addresses plan.asks picks) (plan.go picks)

-- a step that needs no pick, and makes no allocation
plain_tells : (script : MemoryScript Onward) → Makes [] [] script → Leads FrameTells (plain script)
plain_tells script h = record { nothing = refl; none_waits = λ l w. Any-nil (IsWaiter l) w; makes = λ picks. h }

module _ (look : Look) (s : Stack) (site : Site) where
  -- ---- statements

  -- the old storage goes, and there is new one at the picked address
  live_makes : (x : ℕ) (t : Ty) (storage : Option Pointer) (picks : List ℕ) → Makes [] (addresses (Address (size_of t) (align_of t) ∷ []) picks) (live_at s site x t storage picks)
  live_makes x t storage [] = tt
  live_makes x t storage (a ∷ []) = makes_then [] [] ((a, size_of t) ∷ []) (free_storage t storage) _ (frees [] t storage) (λ u p. refl)
  live_makes x t storage (a ∷ b ∷ picks) = tt

  -- `live` asks for one address, and allocates there
  live_tells : (x : ℕ) (l : Option Local) (storage : Option (Option Pointer)) → Leads FrameTells (live s site x l storage)
  live_tells x (Some l) (Some storage) = record {
    nothing = refl;
    none_waits = λ k w. Any-one (IsWaiter k) (Address (size_of l.ty) (align_of l.ty)) w;
    makes = live_makes x l.ty storage;
  }
  live_tells x (Some l) None = tt
  live_tells x None storage = tt

  -- `dead`
  dead_makes : (x : ℕ) (l : Option Local) (storage : Option (Option Pointer)) → Makes [] [] (dead s site x l storage)
  dead_makes x (Some l) (Some storage) = makes_then [] [] [] (free_storage l.ty storage) _ (frees [] l.ty storage) (λ u. refl)
  dead_makes x (Some l) None = tt
  dead_makes x None storage = tt

  -- the other statements
  changed : (x : Stmt) → Makes [] [] (change (scene_in look site.function site.frame) x >>= λ _. Done (next s site site.frame))
  changed x = makes_behind [] [] (change (scene_in look site.function site.frame) x) _ (change_quiet (scene_in look site.function site.frame) x) (λ u. refl)

  statement_tells : (x : Stmt) → Leads FrameTells (statement look s site x)
  statement_tells =
      by_kind (λ x. Leads FrameTells (statement look s site x))
      (λ x. live_tells x.0 (slice_get site.function.locals x.0) (slice_get site.frame.locals x.0))
      (λ x. plain_tells _ (dead_makes x.0 (slice_get site.function.locals x.0) (slice_get site.frame.locals x.0)))
      (λ x kind. subst (Leads FrameTells) (sym (changes look s site x kind)) (plain_tells _ (changed x)))

  -- ---- calls

  -- a call of a function asks for the storage that its start takes
  call_tells : (place : Pointer) (number : ℕ) (fn : Function) (vs : List Val) (given kept : Option (List Ty)) → kept_types fn ≡ kept → Leads FrameTells (call_plan s site place number fn vs (both_there given kept))
  call_tells place number fn vs None kept typed = tt
  call_tells place number fn vs (Some given) None typed = tt
  call_tells place number fn vs (Some given) (Some kept) typed = by_test (same_types given kept)
    where
      goes : (picks : List ℕ) → Makes [] (addresses (storage_asks kept) picks) (enter number (Some fn) vs picks >>= λ new. Done (GoesOn (calling s site place new)))
      goes picks =
          let after : NewRanges = addresses (storage_asks kept) picks in
          makes_then [] after after (enter number (Some fn) vs picks) _ (enters [] number fn kept typed vs picks) (λ new. refl)

      by_test : (b : Bool) → Leads FrameTells (if b then Done (record { creates = CreatesNothing; asks = storage_asks kept; go = λ picks. enter number (Some fn) vs picks >>= λ new. Done (GoesOn (calling s site place new)) }) else Undefined (plainly SignatureMismatch))
      by_test true = record { nothing = refl; none_waits = λ l w. no_waiter l kept w; makes = goes }
      by_test false = tt

  numbered_tells : (given : Option (List Ty)) (place : Pointer) (vs : List Val) (o : Option ℕ) → Leads FrameTells (call_number look s site given place vs o)
  numbered_tells given place vs None = tt
  numbered_tells given place vs (Some number) = by_function (slice_get look.program.functions number)
    where
      by_function : (g : Option Function) → Leads FrameTells (call_function look s site given place vs number g)
      by_function None = tt
      by_function (Some fn) = call_tells place number fn vs given (kept_types fn) refl

  -- `call`
  calls : (callee : Value) (args : List Value) (place : Place) → Leads FrameTells (call look s site callee args place)
  calls callee args place =
      let here = scene_in look site.function site.frame in
      leads_behind FrameTells (place_script here place) _
      (λ p. leads_behind FrameTells (value_script here callee) _
      (λ f. leads_behind FrameTells (pointer_of_value f) _
      (λ c. leads_behind FrameTells (values_script here args) _
      (λ vs. numbered_tells (given_types here place args) p vs (callee_of look.functions c)))))

  -- ---- terminators

  -- `switch`
  switches : (value : Value) (cases : List (Num × BlockName)) (other : BlockName) → Makes [] [] (reading_part (switched (scene_in look site.function site.frame) value cases other) >>= λ b. Done (goes_to s site b))
  switches value cases other =
      let script = switched (scene_in look site.function site.frame) value cases other in
      makes_behind [] [] (reading_part script) _ (reading_quiet script) (λ b. refl)

  terminator_tells : (thread : ℕ) (t : Term) → Leads FrameTells (terminator look thread s site t)
  terminator_tells thread (term.Goto b) = plain_tells _ refl
  terminator_tells thread (term.Switch value cases other) = plain_tells _ (switches value cases other)
  terminator_tells thread term.Unreachable = plain_tells _ tt
  terminator_tells thread (term.Call callee args place next unwind) = calls callee args place
  terminator_tells thread term.Return = plain_tells (return_from look thread s site) (returns [] look thread s site)
  terminator_tells thread (term.Unwind value b) = plain_tells (unwind look s site value b.0) (unwinds [] look s site value b.0)
  terminator_tells thread term.Resume = plain_tells (resume look s site site.below) (resumes [] look s site site.below)
  terminator_tells thread (term.Stop b) = plain_tells _ refl
  terminator_tells thread term.Exit = plain_tells _ refl
  terminator_tells thread term.Abort = plain_tells _ refl
  terminator_tells thread (term.Do op args place next) = tt

  due_tells : (thread : ℕ) (due : Option Due) → Leads FrameTells (plan_due look thread s site due)
  due_tells thread None = tt
  due_tells thread (Some (AtStatement x)) = statement_tells x
  due_tells thread (Some (AtTerminator t)) = terminator_tells thread t
  due_tells thread (Some (AtDo op args place next)) = tt

-- THE STEP OF A FRAME
pub frame_tells : (look : Look) (thread : ℕ) (s : Stack) → Leads FrameTells (frame_plan look thread s)
unfolding frame_plan
frame_tells look thread s = by_site (site_of look s)
  where
    by_site : (o : Option Site) → Leads FrameTells (plan_at look thread s o)
    by_site None = tt
    by_site (Some site) = due_tells look s site thread (due_of site)
