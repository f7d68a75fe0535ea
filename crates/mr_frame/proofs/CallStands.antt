-- A call that is due can be prepared, and then the function can begin: the values have the shapes of its types, and the picks are lawful for its
-- storage.
use Rattle.mr_frame.proofs.Common.{◌≡◌, ℕ, ◌+◌, ◌<◌, ◌≤◌, ◌^◌, refl, sym, ap, ◌∙◌, subst, arith, Bool, true, false, List, [], ◌∷◌, length, map, Option, None, Some, list_all, option_map, slice_get, ◌&&◌, if◌then◌else◌, and_parts, Stop, plainly, is_optional_block, is_shaped_term, named_in, Named, is_shaped_place, is_shaped_value, Place, Value, Function, Program, Term, Ty, Pointer, SignatureMismatch, Memory, ranges_of, Ask, Val, broken_in_parts, sizes_of, surroundings, type_of_value, typed_call, Broken, Outcome, Refused, Went, on, run, seen, each_valued, placed, Surround, values_script, Seen, reading, Stands, seen_of, with_seen, World, tally_of, Env, Scene, HaveShapes, picks_fault, AreLawful, CanBegin, CallIn, Prepared, called, called_function, called_with, prepared, behind_first, both_there, callee_of, given_types, kept_types, same_types, storage_asks, acted, asked, entered, pointed, FitsFrame, IsLook, GoesOn, Look, scene_in, InProgram, AtTerminator}
use Rattle.mr_eval.specs.Sound.{Comes}
use Rattle.mr_eval.proofs.SafeRuns.{safe_comes}
use Rattle.mr_eval.proofs.ShapeOf.{shapes_length}
use Rattle.mr_frame.specs.Acting.{IsDueCall}
use Rattle.mr_ast.specs.declared.program.Term.TheVariants as term
use Rattle.mr_frame.specs.declared.look.Look.{Look as KeptLook}
use Rattle.mr_frame.specs.declared.stack.Stack.{Stack as KeptStack}
use Rattle.mr_frame.specs.Kept.{below_of as under, frame_of, look_of, stack_of}
use Rattle.mr_frame.proofs.CallLaws.{call_in}
use Rattle.mr_frame.proofs.CallRuns.{acted_call, asked_call, prepared_asks}
use Rattle.mr_frame.proofs.CallSafe.{equal_types, judged_there, row_safe}
use Rattle.mr_frame.proofs.Frames.{block_shaped, block_unbroken, stands}
use Rattle.mr_frame.proofs.StandLaws.{term_at, term_in_block}

-- ---- where a call went

-- where a run went, its result is so
abbrev pub IfWent : {A S : Type 0} → (A → Type 0) → Outcome A S → Type 0
IfWent P (Went x s) = P x
IfWent P (Refused r) = Unit {0}
IfWent P Broken = Unit {0}

went_on : {A B S T : Type 0} (P : A → Type 0) (Q : B → Type 0) (o : Outcome A S) (f : A → S → Outcome B T) → IfWent P o → ((x : A) (s : S) → P x → IfWent Q (f x s)) → IfWent Q (on o f)
went_on P Q (Went x s) f h k = k x s h
went_on P Q (Refused r) f h k = tt
went_on P Q Broken f h k = tt

any_went : {A S : Type 0} (o : Outcome A S) → IfWent (λ (x : A). Unit {0}) o
any_went (Went x s) = tt
any_went (Refused r) = tt
any_went Broken = tt

comes_went : {A S : Type 0} (P : A → Type 0) (o : Outcome A S) → Comes P o → IfWent P o
comes_went P (Went x s) h = h
comes_went P (Refused r) h = tt
comes_went P Broken h = tt

-- the values have the shapes of the function's types
abbrev pub AreShaped : Prepared → Type 0
AreShaped pr = HaveShapes (behind_first pr.types) pr.args

module _ (look : Look) (p : Pointer) (vs : List Val) (t : Ty) (types : List Ty) (shapes : HaveShapes types vs) (seen : Seen) where
  with_shapes : (n : ℕ) (fn : Function) (kept : Option (List Ty)) → IfWent AreShaped (called_with p vs n fn (both_there (Some (t ∷ types)) kept) seen)
  with_shapes n fn None = tt
  with_shapes n fn (Some us) = by_test (same_types (t ∷ types) us) refl
    where
      by_test : (b : Bool) → same_types (t ∷ types) us ≡ b → IfWent AreShaped (if b then Went (record { place = p; number = n; function = fn; types = us; args = vs }) seen else Refused (plainly SignatureMismatch))
      by_test true e = subst (λ (ts : List Ty). HaveShapes (behind_first ts) vs) (equal_types (t ∷ types) us e) shapes
      by_test false e = tt

  function_shapes : (n : ℕ) (o : Option Function) → IfWent AreShaped (called_function (Some (t ∷ types)) p vs n o seen)
  function_shapes n None = tt
  function_shapes n (Some fn) = with_shapes n fn (kept_types fn)

  called_shapes : (o : Option ℕ) → IfWent AreShaped (called look (Some (t ∷ types)) p vs o seen)
  called_shapes None = tt
  called_shapes (Some n) = function_shapes n (slice_get look.program.functions n)

prepared_shapes : (m : Memory) (look : Look) (s : Surround) (callee : Value) (args : List Value) (to : Place) (s0 : Seen) (t : Ty) (types : List Ty) → given_types s to args ≡ Some (t ∷ types)
    → ((later : Seen) → IfWent (HaveShapes types) (each_valued m s args later)) → IfWent AreShaped (prepared m look s callee args to s0)
unfolding prepared
prepared_shapes m look s callee args to s0 t types given row =
    went_on (λ q. Unit {0}) AreShaped (placed m s to s0) _ (any_went (placed m s to s0))
    (λ p s1 u. went_on (λ q. Unit {0}) AreShaped (pointed m s callee s1) _ (any_went (pointed m s callee s1))
    (λ c s2 u'. went_on (HaveShapes types) AreShaped (each_valued m s args s2) _ (row s2)
    (λ vs s3 shapes. subst (λ (o : Option (List Ty)). IfWent AreShaped (called look o p vs (callee_of look.functions c) s3)) (sym given) (called_shapes look p vs t types shapes s3 (callee_of look.functions c)))))

-- ---- where a thread stands at a call

module _ (look : KeptLook) (s : KeptStack) (callee : Value) (args : List Value) (to : Place) (h : IsDueCall look s callee args to) where
  abbrev lk : Look
  lk = look_of look

  abbrev p : Program
  p = look.program.now

  abbrev fits : FitsFrame look.program.now (frame_of s.top)
  fits = h.due.stands.fits

  abbrev fn : Function
  fn = fits.function

  abbrev written : Term
  written = term.Call callee args to h.next h.unwind

  abbrev pub scene : Surround
  scene = scene_in lk fn (frame_of s.top)

  abbrev named : Named
  named = named_in p fn

  is_look : IsLook lk
  is_look = record { functions = h.due.ready.functions; globals = h.due.ready.globals }

  stand : Stands named scene
  stand = stands lk is_look h.due.ready.well (frame_of s.top) (under s) fits

  block_ends : fits.block.term ≡ written
  block_ends = term_at (record { function = fn; block = fits.block; frame = frame_of s.top; below = under s }) written h.due.stands.is

  shaped : is_shaped_term named written ≡ true
  shaped = ap (is_shaped_term named) (sym block_ends) ∙ (block_shaped p h.due.ready.well (frame_of s.top) fits).term

  unbroken : broken_in_parts (surroundings p fn) written ≡ []
  unbroken = ap (broken_in_parts (surroundings p fn)) (sym block_ends) ∙ (block_unbroken p h.due.ready.well (frame_of s.top) fits).parts

  -- in the environment of the top frame
  pub call_stands : (e : Env) → InProgram fn e → e.program.now ≡ p → CallIn e callee args to
  call_stands e inside same = call_in e callee args to h.next h.unwind (term_in_block look s (AtTerminator written) h.due written refl e inside same)

  call_shapes : (m : Memory) (s0 : Seen) → IfWent AreShaped (prepared m lk scene callee args to s0)
  unfolding each_valued
  call_shapes m s0 =
      let typed = typed_call named fn (surroundings p fn) refl callee args to h.next h.unwind shaped unbroken in
      let blocks = is_optional_block named h.next && is_optional_block named h.unwind in
      let first = and_parts (is_shaped_value named callee) (list_all (is_shaped_value named) args && (is_shaped_place named to && blocks)) shaped in
      let row = and_parts (list_all (is_shaped_value named) args) (is_shaped_place named to && blocks) first.1 in
      let given : given_types scene to args ≡ Some (typed.2.ty ∷ typed.1.types) =
      λ i. option_map (λ e. e.0 ∷ e.1) (both_there (typed.2.is i) (judged_there (map (type_of_value fn.locals) args) typed.1.types typed.1.are i)) in
      prepared_shapes m lk scene callee args to s0 typed.2.ty typed.1.types given
      (λ later. comes_went (HaveShapes typed.1.types) (run (reading m) (values_script scene args) later)
      (safe_comes (HaveShapes typed.1.types) m (values_script scene args) (row_safe named (sizes_of p.globals) scene stand args typed.1.types typed.1.are row.0 typed.1.unbroken) later))

  -- what it asks for
  asked_by : (m : Memory) (t : ℕ) (s0 : Seen) → asked m lk t (stack_of s) s0 ≡ prepared_asks look h.due.ready (frame_of s.top) (under s) (stack_of s).payloads callee args to h.next h.unwind h.due.stands (prepared m lk scene callee args to s0)
  asked_by m t s0 = asked_call look h.due.ready (frame_of s.top) (under s) (stack_of s).payloads callee args to h.next h.unwind h.due.stands m t s0

  module _ (m : Memory) (t : ℕ) (s0 : Seen) where
    pub asked_prepared : (pr : Prepared) (last : Seen) → prepared m lk scene callee args to s0 ≡ Went pr last → asked m lk t (stack_of s) s0 ≡ storage_asks pr.types
    asked_prepared pr last e = asked_by m t s0 ∙ ap (λ (o : Outcome Prepared Seen). prepared_asks look h.due.ready (frame_of s.top) (under s) (stack_of s).payloads callee args to h.next h.unwind h.due.stands o) e

    pub asked_nothing : (r : Stop) → prepared m lk scene callee args to s0 ≡ Refused r → asked m lk t (stack_of s) s0 ≡ []
    asked_nothing r e = asked_by m t s0 ∙ ap (λ (o : Outcome Prepared Seen). prepared_asks look h.due.ready (frame_of s.top) (under s) (stack_of s).payloads callee args to h.next h.unwind h.due.stands o) e

  -- the refusal of one that is not
  pub call_stops : (t : ℕ) (picks : List ℕ) (w : World) (r : Stop) → prepared w.0 lk scene callee args to (seen_of w.1) ≡ Refused r → acted lk t (stack_of s) picks w ≡ Refused r
  call_stops t picks w r e =
      acted_call look h.due.ready (frame_of s.top) (under s) (stack_of s).payloads callee args to h.next h.unwind h.due.stands t picks w
      ∙ ap (λ (o : Outcome Prepared Seen). on o (λ q l. on (entered q.number (Some q.function) q.args picks (w.0, with_seen w.1 l)) (λ f v. Went (GoesOn (record (stack_of s) { frames = f ∷ record (frame_of s.top) { call = Some q.place } ∷ under s })) v))) e

  -- and the callee's frame above the caller's
  pub call_goes : (t : ℕ) (picks : List ℕ) (w : World) (pr : Prepared) (last : Seen) → prepared w.0 lk scene callee args to (seen_of w.1) ≡ Went pr last → slice_get p.functions pr.number ≡ Some pr.function
      → acted lk t (stack_of s) picks w ≡ on (entered pr.number (slice_get p.functions pr.number) pr.args picks (w.0, with_seen w.1 last)) (λ f v. Went (GoesOn (record (stack_of s) { frames = f ∷ record (frame_of s.top) { call = Some pr.place } ∷ under s })) v)
  call_goes t picks w pr last e there =
      acted_call look h.due.ready (frame_of s.top) (under s) (stack_of s).payloads callee args to h.next h.unwind h.due.stands t picks w
      ∙ ap (λ (o : Outcome Prepared Seen). on o (λ q l. on (entered q.number (Some q.function) q.args picks (w.0, with_seen w.1 l)) (λ f v. Went (GoesOn (record (stack_of s) { frames = f ∷ record (frame_of s.top) { call = Some q.place } ∷ under s })) v))) e
      ∙ ap (λ (o : Option Function). on (entered pr.number o pr.args picks (w.0, with_seen w.1 last)) (λ f v. Went (GoesOn (record (stack_of s) { frames = f ∷ record (frame_of s.top) { call = Some pr.place } ∷ under s })) v)) (sym there)

  module _ (at : Scene) (picks : List ℕ) (ok : AreLawful lk (stack_of s) picks at) (pr : Prepared) (few : length pr.args < 2 ^ 63) (last : Seen) (went : prepared at.memory lk scene callee args to (seen at.notes) ≡ Went pr last) where
    lawful : picks_fault [] (ranges_of at.memory) at.thread at.count (storage_asks pr.types) picks ≡ None
    lawful = ap (λ (asks : List Ask). picks_fault [] (ranges_of at.memory) at.thread at.count asks picks) (sym (asked_prepared at.memory at.thread (seen at.notes) pr last went)) ∙ ok.lawful

    shapes_there : AreShaped pr
    shapes_there = let w = call_shapes at.memory (seen at.notes) in subst (λ (o : Outcome Prepared Seen). IfWent AreShaped o) went w

    one_more : (ts : List Ty) → length ts ≤ length (behind_first ts) + 1
    one_more [] = omega arith
    one_more (t ∷ ts) = omega arith

    -- THE FUNCTION CAN BEGIN
    pub call_begins : (number : ℕ) → slice_get p.functions number ≡ Some pr.function → kept_types pr.function ≡ Some pr.types → CanBegin look number pr.args picks (at.memory, with_seen (tally_of at) last)
    call_begins number there typed = record {
      ready = h.due.ready;
      function = pr.function;
      there = there;
      types = pr.types;
      typed = typed;
      shapes = shapes_there;
      allocates = record { lawful = lawful; uncounted = ok.uncounted; room = (let count = ok.few in let row = shapes_length (behind_first pr.types) pr.args shapes_there in let one = one_more pr.types in omega arith) };
    }
