-- The plan of a frame's step creates nothing and asks for addresses alone.
use Rattle.mr_turn.proofs.Common.{◌≡◌, ℕ, refl, ap, List, [], ◌∷◌, Bool, true, false, Option, Some, None, sym, subst, slice_get, if◌then◌else◌, plainly, Function, Ty, Pointer, SignatureMismatch, Memory, Ask, Address, Val, MemoryScript, Seen, reading, else_fault, picks_fault, CreatesNothing, Plan, both_there, callee_of, enter, kept_types, same_types, storage_asks, Look, Onward, Stack, frame_plan}
use Rattle.std.proofs.Common.{◌+◌}
use Rattle.mr_ast.specs.declared.expr.Place.{Place}
use Rattle.mr_ast.specs.declared.expr.Value.{Value}
use Rattle.mr_ast.specs.declared.program.Local.{Local}
use Rattle.mr_ast.specs.declared.program.Stmt.{Stmt}
use Rattle.mr_ast.specs.declared.program.Term.{Term}
use Rattle.mr_base.specs.declared.thread.Status.{Status}
use Rattle.mr_mem.specs.Memory.{Ranges, range_fault, with_range}
use Rattle.mr_sched.specs.declared.schedule.Ask.TheVariants.{Waiter}
use Rattle.mr_eval.specs.Evaluation.{place_script, value_script, values_script}
use Rattle.mr_eval.specs.Operators.{pointer_of_value}
use Rattle.mr_eval.specs.Reads.{ReadScript}
use Rattle.mr_frame.specs.PlanLegal.{address_fault}
use Rattle.mr_frame.specs.Calls.{call, call_function, call_number, call_plan, calling, given_types}
use Rattle.mr_frame.specs.Frames.{GoesOn, scene_in}
use Rattle.mr_frame.specs.Sites.{AtDo, AtStatement, AtTerminator, Due, Site, due_of, site_of}
use Rattle.mr_frame.specs.Steps.{live, plan_at, plan_due, statement, terminator}
use Rattle.mr_frame.proofs.StorageSteps.{Leads}
use Rattle.mr_frame.proofs.Statements.{by_kind, changes}
use Rattle.mr_ast.specs.declared.program.Term.TheVariants as term
use Rattle.mr_base.specs.Script.{Done, Undefined, IllFormed, Ask as Asks, ◌>>=◌, Outcome, Went, Refused, Broken, on, run}

-- addresses alone
abbrev pub AreAddresses : List Ask → Type 0
AreAddresses [] = Unit {0}
AreAddresses (Address size align ∷ asks) = AreAddresses asks
AreAddresses (Waiter lock ∷ asks) = ⊥

-- statuses count for no address
pub same_statuses : (ss tt : List Status) (rs : Ranges) (t count : ℕ) (asks : List Ask) (picks : List ℕ) → AreAddresses asks → picks_fault ss rs t count asks picks ≡ picks_fault tt rs t count asks picks
same_statuses ss us rs t count [] [] h = refl
same_statuses ss us rs t count [] (pick ∷ picks) h = refl
same_statuses ss us rs t count (ask ∷ asks) [] h = refl
same_statuses ss us rs t count (Address size align ∷ asks) (addr ∷ picks) h =
    ap (else_fault (address_fault (range_fault rs addr size align)))
    (same_statuses ss us (with_range rs (record { thread = t; count = count }) addr size) t (count + 1) asks picks h)
same_statuses ss us rs t count (Waiter lock ∷ asks) (thread ∷ picks) h = absurd h

-- what such a plan is
pub record IsPlain (plan : Plan (MemoryScript Onward)) : Type 0 where
  pub creates : plan.creates ≡ CreatesNothing
  pub asks : AreAddresses plan.asks

storage_addresses : (types : List Ty) → AreAddresses (storage_asks types)
storage_addresses [] = tt
storage_addresses (t ∷ types) = storage_addresses types

leads_then : {A B : Type 0} (P : B → Type 0) (m : ReadScript A) (f : A → ReadScript B) → ((x : A) → Leads P (f x)) → Leads P (m >>= f)
leads_then P (Done a) f h = h a
leads_then P (Undefined r) f h = tt
leads_then P IllFormed f h = tt
leads_then P (Asks q k) f h = λ x. leads_then P (k x) f h

module _ (look : Look) (s : Stack) (site : Site) where
  live_plain : (x : ℕ) (l : Option Local) (storage : Option (Option Pointer)) → Leads IsPlain (live s site x l storage)
  live_plain x (Some l) (Some storage) = record { creates = refl; asks = tt }
  live_plain x (Some l) None = tt
  live_plain x None storage = tt

  statement_plain : (x : Stmt) → Leads IsPlain (statement look s site x)
  statement_plain =
      by_kind (λ x. Leads IsPlain (statement look s site x))
      (λ x. live_plain x.0 (slice_get site.function.locals x.0) (slice_get site.frame.locals x.0))
      (λ x. record { creates = refl; asks = tt })
      (λ x kind. subst (Leads IsPlain) (sym (changes look s site x kind)) (record { creates = refl; asks = tt }))

  plan_plain : (place : Pointer) (number : ℕ) (fn : Function) (vs : List Val) (types : Option (List Ty × List Ty)) → Leads IsPlain (call_plan s site place number fn vs types)
  plan_plain place number fn vs None = tt
  plan_plain place number fn vs (Some types) = by_test (same_types types.0 types.1)
    where
      by_test : (b : Bool) → Leads IsPlain (if b then Done (record { creates = CreatesNothing; asks = storage_asks types.1; go = λ picks. enter number (Some fn) vs picks >>= λ new. Done (GoesOn (calling s site place new)) }) else Undefined (plainly SignatureMismatch))
      by_test true = record { creates = refl; asks = storage_addresses types.1 }
      by_test false = tt

  numbered_plain : (given : Option (List Ty)) (place : Pointer) (vs : List Val) (o : Option ℕ) → Leads IsPlain (call_number look s site given place vs o)
  numbered_plain given place vs None = tt
  numbered_plain given place vs (Some number) = by_function (slice_get look.program.functions number)
    where
      by_function : (g : Option Function) → Leads IsPlain (call_function look s site given place vs number g)
      by_function None = tt
      by_function (Some fn) = plan_plain place number fn vs (both_there given (kept_types fn))

  call_plain : (callee : Value) (args : List Value) (place : Place) → Leads IsPlain (call look s site callee args place)
  call_plain callee args place =
      let here = scene_in look site.function site.frame in
      leads_then IsPlain (place_script here place) _
      (λ q. leads_then IsPlain (value_script here callee) _
      (λ v. leads_then IsPlain (pointer_of_value v) _
      (λ c. leads_then IsPlain (values_script here args) _
      (λ vs. numbered_plain (given_types here place args) q vs (callee_of look.functions c)))))

  terminator_plain : (thread : ℕ) (t : Term) → Leads IsPlain (terminator look thread s site t)
  terminator_plain thread (term.Goto b) = record { creates = refl; asks = tt }
  terminator_plain thread (term.Switch v cases other) = record { creates = refl; asks = tt }
  terminator_plain thread term.Unreachable = record { creates = refl; asks = tt }
  terminator_plain thread (term.Call callee args place next unwind) = call_plain callee args place
  terminator_plain thread term.Return = record { creates = refl; asks = tt }
  terminator_plain thread (term.Unwind v b) = record { creates = refl; asks = tt }
  terminator_plain thread term.Resume = record { creates = refl; asks = tt }
  terminator_plain thread (term.Stop b) = record { creates = refl; asks = tt }
  terminator_plain thread term.Exit = record { creates = refl; asks = tt }
  terminator_plain thread term.Abort = record { creates = refl; asks = tt }
  terminator_plain thread (term.Do op args place next) = tt

  due_plain : (thread : ℕ) (due : Option Due) → Leads IsPlain (plan_due look thread s site due)
  due_plain thread None = tt
  due_plain thread (Some (AtStatement x)) = statement_plain x
  due_plain thread (Some (AtTerminator t)) = terminator_plain thread t
  due_plain thread (Some (AtDo op args place next)) = tt

-- THE PLAN OF A FRAME'S STEP is such a one
pub frame_plain : (look : Look) (thread : ℕ) (s : Stack) → Leads IsPlain (frame_plan look thread s)
unfolding frame_plan
frame_plain look thread s = by_site (site_of look s)
  where
    by_site : (o : Option Site) → Leads IsPlain (plan_at look thread s o)
    by_site None = tt
    by_site (Some site) = due_plain look s site thread (due_of site)

-- what holds of a result, where a run goes on
abbrev pub WentSo : {A S : Type 0} → (A → Type 0) → Outcome A S → Type 0
WentSo P (Went x s) = P x
WentSo P (Refused r) = Unit {0}
WentSo P Broken = Unit {0}

-- where a run goes on from an answer
went_on : {A R : Type 0} (P : A → Type 0) (o : Outcome R Seen) (f : R → Seen → Outcome A Seen) → ((x : R) (s : Seen) → WentSo P (f x s)) → WentSo P (on o f)
went_on P (Went x s) f h = h x s
went_on P (Refused r) f h = tt
went_on P Broken f h = tt

-- what a reading part leads to holds of where its run goes on
pub led : {A : Type 0} (P : A → Type 0) (script : ReadScript A) → Leads P script → (m : Memory) (s : Seen) → WentSo P (run (reading m) script s)
led P (Done a) h m s = h
led P (Undefined r) h m s = tt
led P IllFormed h m s = tt
led P (Asks q k) h m s = went_on P (reading m q s) (λ y u. run (reading m) (k y) u) (λ y u. led P (k y) (h y) m u)
