-- What a call comes to: first what it finds out, and then the callee's frame.
use Rattle.mr_frame.proofs.Common.{◌≡◌, ℕ, refl, sym, ap, ◌∙◌, Bool, true, false, List, [], Option, None, Some, slice_get, if◌then◌else◌, plainly, Place, Value, BlockName, Function, Ty, Pointer, SignatureMismatch, Memory, Ask, Val, Broken, Done, Outcome, Refused, Undefined, Went, ◌>>=◌, on, run, run_bind, each_valued, placed, Surround, place_script, value_script, values_script, MemoryScript, memory_answer, pointer_of_value, Seen, reading, seen_of, with_seen, World, CreatesNothing, Plan, on_then, reading_then, Prepared, called, called_function, called_with, prepared, both_there, call, call_function, call_number, call_plan, callee_of, calling, enter, given_types, kept_types, same_types, storage_asks, acted, asked, asks_of, entered, pointed, Frame, GoesOn, Look, Onward, Stack, scene_in, IsReady, look_of, AtTerminator, Site, StandsAt}
use Rattle.mr_ast.specs.declared.program.Term.TheVariants as term
use Rattle.mr_frame.specs.declared.look.Look.{Look as KeptLook}
use Rattle.mr_frame.proofs.ActedLaws.{acted_is, asked_is, memory_bind, on_same, pointed_run, site, stack}

module _ (look : Look) (s : Stack) (at : Site) where
  -- the plan of a call that is prepared
  abbrev pub prepared_plan : Prepared → Plan (MemoryScript Onward)
  prepared_plan pr = record {
    creates = CreatesNothing;
    asks = storage_asks pr.types;
    go = λ picks. enter pr.number (Some pr.function) pr.args picks >>= λ new. Done (GoesOn (calling s at pr.place new));
  }

  abbrev pub planned_call : Prepared → Seen → Outcome (Plan (MemoryScript Onward)) Seen
  planned_call pr seen = Went (prepared_plan pr) seen

  plan_run : (m : Memory) (p : Pointer) (vs : List Val) (n : ℕ) (fn : Function) (types : Option (List Ty × List Ty)) (seen : Seen)
      → run (reading m) (call_plan s at p n fn vs types) seen ≡ on (called_with p vs n fn types seen) planned_call
  plan_run m p vs n fn None seen = refl
  plan_run m p vs n fn (Some types) seen = by_test (same_types types.0 types.1)
    where
      by_test : (b : Bool) → run (reading m) (if b then Done (prepared_plan (record { place = p; number = n; function = fn; types = types.1; args = vs })) else Undefined (plainly SignatureMismatch)) seen
          ≡ on (if b then Went (record { place = p; number = n; function = fn; types = types.1; args = vs }) seen else Refused (plainly SignatureMismatch)) planned_call
      by_test true = refl
      by_test false = refl

  function_run : (m : Memory) (given : Option (List Ty)) (p : Pointer) (vs : List Val) (n : ℕ) (o : Option Function) (seen : Seen)
      → run (reading m) (call_function look s at given p vs n o) seen ≡ on (called_function given p vs n o seen) planned_call
  function_run m given p vs n None seen = refl
  function_run m given p vs n (Some fn) seen = plan_run m p vs n fn (both_there given (kept_types fn)) seen

  number_run : (m : Memory) (given : Option (List Ty)) (p : Pointer) (vs : List Val) (o : Option ℕ) (seen : Seen)
      → run (reading m) (call_number look s at given p vs o) seen ≡ on (called look given p vs o seen) planned_call
  number_run m given p vs None seen = refl
  number_run m given p vs (Some n) seen = function_run m given p vs n (slice_get look.program.functions n) seen

  -- THE PLAN OF A CALL is that of the call as it is prepared
  pub call_run : (m : Memory) (callee : Value) (args : List Value) (place : Place) (seen : Seen)
      → run (reading m) (call look s at callee args place) seen ≡ on (prepared m look (scene_in look at.function at.frame) callee args place seen) planned_call
  unfolding prepared placed each_valued
  call_run m callee args place seen =
      let scene = scene_in look at.function at.frame in
      let given = given_types scene place args in
      let last : Pointer → Pointer → List Val → Seen → Outcome Prepared Seen = λ p c vs s3. called look given p vs (callee_of look.functions c) s3 in
      let row : Pointer → Pointer → Seen → Outcome Prepared Seen = λ p c s2. on (run (reading m) (values_script scene args) s2) (last p c) in
      let fn : Pointer → Seen → Outcome Prepared Seen = λ p s1. on (pointed m scene callee s1) (row p) in
      run_bind (reading m) (place_script scene place) _ seen
      ∙ on_same (run (reading m) (place_script scene place) seen) _ _
      (λ p s1. run_bind (reading m) (value_script scene callee) _ s1
      ∙ on_same (run (reading m) (value_script scene callee) s1) _ _ (λ f s2. run_bind (reading m) (pointer_of_value f) _ s2)
      ∙ sym (on_then (run (reading m) (value_script scene callee) s1) (λ f s2. run (reading m) (pointer_of_value f) s2) _)
      ∙ ap (λ (o : Outcome Pointer Seen). on o (λ c s3. run (reading m) (values_script scene args >>= λ vs. call_number look s at given p vs (callee_of look.functions c)) s3)) (pointed_run m scene callee s1)
      ∙ on_same (pointed m scene callee s1) _ _
      (λ c s3. run_bind (reading m) (values_script scene args) _ s3
      ∙ on_same (run (reading m) (values_script scene args) s3) _ _ (λ vs s4. number_run m given p vs (callee_of look.functions c) s4)
      ∙ sym (on_then (run (reading m) (values_script scene args) s3) (last p c) planned_call))
      ∙ sym (on_then (pointed m scene callee s1) (row p) planned_call))
      ∙ sym (on_then (run (reading m) (place_script scene place) seen) fn planned_call)

module _ (look : KeptLook) (ready : IsReady look) (f : Frame) (below : List Frame) (payloads : List Pointer) (callee : Value) (args : List Value) (place : Place) (next unwind : Option BlockName)
    (h : StandsAt look.program.now f below (AtTerminator (term.Call callee args place next unwind))) where
  abbrev lk : Look
  lk = look_of look

  abbrev here : Site
  here = site look ready f below payloads (AtTerminator (term.Call callee args place next unwind)) h

  abbrev whole : Stack
  whole = stack look ready f below payloads

  abbrev scene : Surround
  scene = scene_in lk h.fits.function f

  pub acted_call : (t : ℕ) (picks : List ℕ) (w : World) → acted lk t whole picks w
      ≡ on (prepared w.0 lk scene callee args place (seen_of w.1))
      (λ pr s. on (entered pr.number (Some pr.function) pr.args picks (w.0, with_seen w.1 s)) (λ new v. Went (GoesOn (calling whole here pr.place new)) v))
  unfolding entered
  acted_call t picks w =
      acted_is look ready f below payloads (AtTerminator (term.Call callee args place next unwind)) h t picks w
      ∙ reading_then (call lk whole here callee args place) (λ plan. plan.go picks) w
      ∙ ap (λ (o : Outcome (Plan (MemoryScript Onward)) Seen). on o (λ plan s. run memory_answer (plan.go picks) (w.0, with_seen w.1 s))) (call_run lk whole here w.0 callee args place (seen_of w.1))
      ∙ on_then (prepared w.0 lk scene callee args place (seen_of w.1)) (planned_call lk whole here) _
      ∙ on_same (prepared w.0 lk scene callee args place (seen_of w.1)) _ _
      (λ pr s. memory_bind (enter pr.number (Some pr.function) pr.args picks) (λ new. Done (GoesOn (calling whole here pr.place new))) (w.0, with_seen w.1 s))

  abbrev pub prepared_asks : Outcome Prepared Seen → List Ask
  prepared_asks (Went pr s) = storage_asks pr.types
  prepared_asks (Refused r) = []
  prepared_asks Broken = []

  asks_prepared : (o : Outcome Prepared Seen) → asks_of (on o (planned_call lk whole here)) ≡ prepared_asks o
  asks_prepared (Went pr s) = refl
  asks_prepared (Refused r) = refl
  asks_prepared Broken = refl

  pub asked_call : (m : Memory) (t : ℕ) (s : Seen) → asked m lk t whole s ≡ prepared_asks (prepared m lk scene callee args place s)
  asked_call m t s =
      asked_is look ready f below payloads (AtTerminator (term.Call callee args place next unwind)) h m t s
      ∙ ap asks_of (call_run lk whole here m callee args place s)
      ∙ asks_prepared (prepared m lk scene callee args place s)
