-- What the code of a thread's start finds and answers, by its parts.
use Rattle.mr_turn.proofs.Common.{◌≡◌, ℕ, refl, sym, ap, ap₂, ◌∙◌, subst, arith, List, [], ◌∷◌, length, Bool, true, false, Option, Some, None, Result, ◌&&◌, slice_get, if◌then◌else◌, option_map, Stop, Function, Intrinsic, Ty, Pointer, ranges_of, Address, Val, Went, Refused, on, run, Tables, spawned, tally_of, world_of, Scene, else_fault, picks_fault, CreatesThread, Goes, Notes, Shared, answer, moved_to, ValueFits, DueDo, Operands, OperandsFit, next_do, callee_of, kept_types, same_types, storage_asks, operands_of, IsReady, look_of, stack_of, DoCall, same_Some, Own, finishing, new_thread, thread_types, Deed, CanEnd, EndAnswer, IsGiven, IsNewThread, do_breaks, do_comes_to, TurnFault, result_fits, DeedAnswer, Does, Turned, asks_break, begun, is_end, own_of, picks_break, printed_lines, shared_in, turn_by}
use Rattle.std.proofs.Common.{◌<◌, ◌^◌, drop, take}
use Rattle.std.specs.Prelude.{◌-◌, nat_lt}
use Rattle.mr_ast.specs.declared.types.IntType.TheVariants.{U32}
use Rattle.mr_base.proofs.Comparisons.{lt_from, lt_test}
use Rattle.mr_base.specs.declared.thread.Event.TheVariants.{Spawn}
use Rattle.mr_layout.proofs.AlignLaws.{align_raw, align_tuple}
use Rattle.mr_layout.proofs.SizeLaws.{size_raw, size_tuple}
use Rattle.mr_layout.specs.Sizes.{align_of, size_of}
use Rattle.mr_value.specs.declared.val.Val.{out-Val}
use Rattle.mr_value.specs.Shape.{has_shape}
use Rattle.mr_value.proofs.ShapeLaws.{has_int, shape_fn_ptr}
use Rattle.mr_typing.specs.Intrinsics.{fits_intrinsic, gives}
use Rattle.mr_typing.specs.Operands.{is_fn_ptr, is_raw}
use Rattle.mr_typing.proofs.KindLaws.{fn_ptr_is, raw_is}
use Rattle.mr_eval.specs.Shapes.{HaveShapes}
use Rattle.mr_frame.specs.PlanLegal.{creation_fault, fault}
use Rattle.mr_frame.proofs.PlanLegalLaws.{no_faults}
use Rattle.mr_frame.proofs.CallSafe.{equal_types, kept_there, position_below}
use Rattle.mr_frame.proofs.Frames.{function_keeps}
use Rattle.mr_frame.specs.Beginning.{CanBegin, IsBottom}
use Rattle.mr_frame.specs.Calls.{behind_first}
use Rattle.mr_intr.proofs.OperationSafe.{result_is}
use Rattle.std.proofs.lemmas.Bool.{and_parts}
use Rattle.mr_start.specs.Steps.{with_stack}
use Rattle.mr_turn.specs.Doing.{IsStart, SpawnGiven, SpawnsFunction, StandsFor, StartsThread}
use Rattle.mr_base.proofs.Lists.{item_there}
use Rattle.mr_eval.specs.Operators.{pointer_in}
use Rattle.mr_ast.specs.declared.program.Intrinsic.TheVariants as intrinsic
use Rattle.mr_ast.specs.declared.types.Ty.TheVariants as ty
use Rattle.mr_frame.specs.declared.flow.Flow.TheVariants as flow
use Rattle.mr_value.specs.declared.val.Val.TheVariants as val
use Rattle.mr_frame.specs.Effects.{entered, finished as ended}
use Rattle.mr_frame.specs.declared.look.Look.{Look as KeptLook}
use Rattle.mr_frame.specs.declared.stack.Stack.{Stack as KeptStack}
use Rattle.mr_turn.proofs.PlanAsks.{same_statuses}
use Rattle.mr_turn.proofs.DoAnswers.{end_is_deed}
use Rattle.mr_turn.proofs.DoTurns.{finishing_run}
use Rattle.mr_turn.proofs.SpawnTurns.{start_planned, start_turned, with_thread}
use Rattle.mr_sched.specs.declared.rule.ScheduleRule.TheVariants as rule

-- there are fewer than 1,024 threads
pub few_from : (w : Shared) → creation_fault w CreatesThread ≡ None → length w.statuses < 1024
few_from w h = by_test (nat_lt (length w.statuses) 1024) refl h
  where
    by_test : (b : Bool) → nat_lt (length w.statuses) 1024 ≡ b → (if b then None else fault rule.TooManyThreads) ≡ None → length w.statuses < 1024
    by_test true e k = lt_from (length w.statuses) 1024 e
    by_test false e k = absurd (cc)

-- ---- what a start is given

-- a pointer to a function, a raw pointer, and a place for the number
pub spawn_given : (o : Operands) → OperandsFit intrinsic.Spawn o → SpawnGiven o
spawn_given o fit = by_types o.arg_types o.args o.result_type fit.shapes fit.fits refl refl
  where
    by_types : (types : List Ty) (args : List Val) (result : Option Ty) → HaveShapes types args → fits_intrinsic intrinsic.Spawn types result ≡ true → args ≡ o.args → result ≡ o.result_type → SpawnGiven o
    by_types [] args result shapes fits is to = absurd (cc)
    by_types (a ∷ []) args result shapes fits is to = absurd (cc)
    by_types (a ∷ b ∷ []) [] result shapes fits is to = absurd shapes
    by_types (a ∷ b ∷ []) (x ∷ []) result shapes fits is to = absurd (shapes.1)
    by_types (a ∷ b ∷ []) (x ∷ y ∷ []) result shapes fits is to =
        let parts = and_parts (is_fn_ptr a) (is_raw b && gives (ty.Int U32) result) fits in
        let rest = and_parts (is_raw b) (gives (ty.Int U32) result) parts.1 in
        let made = shape_fn_ptr x (subst (λ (u : Ty). has_shape u x ≡ true) (fn_ptr_is a parts.0) shapes.0) in
        record {
          callee = made.pointer;
          argument = y;
          args = sym is ∙ ap (λ v. v ∷ y ∷ []) made.is;
          raw = subst (λ (u : Ty). has_shape u y ≡ true) (raw_is b rest.0) shapes.1.0;
          result = sym to ∙ result_is (ty.Int U32) result rest.1;
        }
    by_types (a ∷ b ∷ []) (x ∷ y ∷ z ∷ args) result shapes fits is to = absurd (shapes.1.1)
    by_types (a ∷ b ∷ c ∷ types) args result shapes fits is to = absurd (cc)

-- the storage of a thread's first frame
pub thread_asks : storage_asks thread_types ≡ Address 0 1 ∷ Address 8 8 ∷ []
thread_asks =
    ap₂ (λ size align. Address size align ∷ Address (size_of ty.Raw) (align_of ty.Raw) ∷ []) (size_tuple 0 1 []) (align_tuple 0 1 [])
    ∙ ap₂ (λ size align. Address 0 1 ∷ Address size align ∷ []) size_raw align_raw

module _ (look : KeptLook) (stack : KeptStack) (s : Scene) (x : Tables) (call : DoCall) (d : DueDo) (number : ℕ) (picks : List ℕ) where
  abbrev o : Operands
  o = operands_of call

  abbrev own : Own
  own = own_of s.thread stack

  module _ (is : d.op ≡ intrinsic.Spawn) (g : SpawnGiven o) (at : IsStart look g number) where
    -- what the plan of it needs
    pub start_breaks : do_breaks look stack s x call d picks ≡ else_fault (creation_fault (shared_in s x) CreatesThread) (asks_break s x (Address 0 1 ∷ Address 8 8 ∷ []) picks)
    start_breaks =
        ap (λ p. picks_break (begun s x) p picks)
        (start_planned (look_of look) own d o is g.callee g.argument g.args (begun s x) number at.called at.function at.there at.types at.typed at.same)
        ∙ ap (λ ts. else_fault (creation_fault (shared_in s x) CreatesThread) (asks_break s x (storage_asks ts) picks)) (sym (equal_types thread_types at.types at.same))
        ∙ ap (λ asks. else_fault (creation_fault (shared_in s x) CreatesThread) (asks_break s x asks picks)) thread_asks

  -- ---- the start

  module _ (h : StartsThread look stack s x call d number picks) where
    -- the first frame can begin
    pub thread_begins : CanBegin look number (h.given_to.argument ∷ []) picks (world_of s)
    thread_begins =
        let same : h.at.types ≡ thread_types = sym (equal_types thread_types h.at.types h.at.same) in
        record {
          ready = h.given.ready;
          function = h.at.function;
          there = h.at.there;
          types = h.at.types;
          typed = h.at.typed;
          shapes = subst (λ ts. HaveShapes (behind_first ts) (h.given_to.argument ∷ [])) (sym same) (h.given_to.raw, tt);
          allocates = record {
            lawful = subst (λ ts. picks_fault [] (ranges_of s.memory) s.thread s.count (storage_asks ts) picks ≡ None) (sym same) h.lawful;
            uncounted = h.given.uncounted;
            room = (let two : length h.at.types ≡ 2 = ap (λ ts. length ts) same in let few = h.given.few in omega arith);
          };
        }

    abbrev behind : Scene → KeptStack → Shared × Notes
    behind s' new = with_thread (look_of look) own d o h.is h.given_to.callee h.given_to.argument h.given_to.args (begun s x) number h.at.called h.at.function h.at.there h.at.types h.at.typed (moved_to (begun s x) (world_of s'))

    -- the number of the new thread fits its place
    pub number_fits : ValueFits o.result_type (Some (val.Int (length x.statuses)))
    number_fits =
        subst (λ r. ValueFits r (Some (val.Int (length x.statuses)))) (sym h.given_to.result)
        (val.Int (length x.statuses), refl, has_int U32 (length x.statuses) ∙ lt_test (length x.statuses) (2 ^ 32) (let few = h.few in omega arith))

    module _ (s' : Scene) (new : KeptStack) (bottom : IsBottom (entered number (slice_get look.program.now.functions number) (h.given_to.argument ∷ []) picks (world_of s)) (stack_of new) (world_of s')) where
      starts : do_comes_to look stack s x call d picks
          ≡ on (ended (stack_of stack) d o (Some (val.Int (length x.statuses))) (world_of s')) (λ k z. Went (Goes (with_stack own k) (Some (own_of (length x.statuses) new))) (moved_to (behind s' new) z))
      starts =
          start_turned (look_of look) own d o h.is h.given_to.callee h.given_to.argument h.given_to.args (begun s x) number h.at.called h.at.function h.at.there h.at.types h.at.typed picks h.at.same
          ∙ ap (λ e. on e (λ frame v. run answer (finishing own d o (Some (val.Int (length x.statuses))) (Some (new_thread (length x.statuses) frame))) (with_thread (look_of look) own d o h.is h.given_to.callee h.given_to.argument h.given_to.args (begun s x) number h.at.called h.at.function h.at.there h.at.types h.at.typed (moved_to (begun s x) v))))
          (ap (λ f. entered number f (h.given_to.argument ∷ []) picks (world_of s)) (sym h.at.there) ∙ bottom.went)
          ∙ finishing_run own d o (Some (val.Int (length x.statuses))) (Some (new_thread (length x.statuses) bottom.frame)) (behind s' new)
          ∙ ap (λ k. on (ended (stack_of stack) d o (Some (val.Int (length x.statuses))) (world_of s')) (λ j z. Went (Goes (with_stack own j) (Some (record { thread = length x.statuses; stack = k }))) (moved_to (behind s' new) z))) (sym bottom.is)

      pub start_refused : (r : Stop) → ended (stack_of stack) d o (Some (val.Int (length x.statuses))) (world_of s') ≡ Refused r → do_comes_to look stack s x call d picks ≡ Refused r
      start_refused r e = starts ∙ ap (λ p. on p (λ k z. Went (Goes (with_stack own k) (Some (own_of (length x.statuses) new))) (moved_to (behind s' new) z))) e

      -- THE THREAD is started
      pub start_done : (stack' : KeptStack) (s'' : Scene) (x'' : Tables) (deed : Deed) → ended (stack_of stack) d o (Some (val.Int (length x.statuses))) (world_of s') ≡ Went (stack_of stack') (world_of s'')
          → x'' ≡ (spawned x).1 → deed.flow ≡ flow.Went → deed.event ≡ Spawn (length x.statuses) → deed.woken.items ≡ length x.statuses ∷ [] → deed.started ≡ Some new → deed.text ≡ None
          → Turned own (length x.statuses) (do_comes_to look stack s x call d picks) deed stack' s'' x''
      start_done stack' s'' x'' deed e tables goes event woken started text =
          let notes : Notes = record (behind s' new).1 { tally = tally_of s'' } in
          record {
            notes = notes;
            goes =
                starts ∙ ap (λ p. on p (λ k z. Went (Goes (with_stack own k) (Some (own_of (length x.statuses) new))) (moved_to (behind s' new) z))) e
                ∙ ap₂ (λ f st. Went (turn_by f own stack' (option_map (own_of (length x.statuses)) st)) (shared_in s'' (spawned x).1, notes)) (sym goes) (sym started)
                ∙ ap (λ (t : Tables). Went (turn_by deed.flow own stack' (option_map (own_of (length x.statuses)) deed.started)) (shared_in s'' t, notes)) (sym tables);
            tally = refl;
            event = sym event;
            ended = sym (ap is_end goes);
            woken = sym woken;
            printed = sym (ap (λ t. printed_lines (option_map (λ y. y.items) t)) text);
          }

-- ---- what the code finds

-- the intrinsic that is due is the start of a thread
pub spawn_given_for : (d : DueDo) → d.op ≡ intrinsic.Spawn → (o : Operands) → OperandsFit d.op o → SpawnGiven o
spawn_given_for d is o fit = spawn_given o (subst (λ (y : Intrinsic). OperandsFit y o) is fit)

pub spawns_for : (look : KeptLook) (stack : KeptStack) (s : Scene) (x : Tables) (call : DoCall) (number : ℕ) → (e : DueDo) × SpawnsFunction look stack s x call e number
    → (d : DueDo) → next_do (look_of look) (stack_of stack) ≡ Some d → SpawnsFunction look stack s x call d number
spawns_for look stack s x call number (e, h) d due = subst (λ (f : DueDo). SpawnsFunction look stack s x call f number) (same_Some e d (sym h.given.due ∙ due)) h

module _ (o : Operands) (g : SpawnGiven o) (xs : List Val) (are : xs ≡ o.args) where
  -- the first argument is the pointer to the function
  pub first_pointer : (p : Pointer) × (slice_get xs 0 ≡ Some (val.Ptr p))
  first_pointer = (g.callee, ap (λ l. slice_get l 0) (are ∙ g.args))

  pub callee_found : (q : Pointer) → slice_get xs 0 ≡ Some (val.Ptr q) → q ≡ g.callee
  callee_found q at =
      let same : val.Ptr q ≡ val.Ptr g.callee = same_Some (val.Ptr q) (val.Ptr g.callee) (sym at ∙ ap (λ l. slice_get l 0) (are ∙ g.args)) in
      same_Some q g.callee (sym (ap pointer_in (val.outs-Ptr q)) ∙ ap (λ v. pointer_in (out-Val v)) same ∙ ap pointer_in (val.outs-Ptr g.callee))

pub no_callee : (look : KeptLook) (o : Operands) (g : SpawnGiven o) (xs : List Val) → xs ≡ o.args → (q : Pointer) → slice_get xs 0 ≡ Some (val.Ptr q) → None ≡ callee_of look.functions.now q → callee_of look.functions.now g.callee ≡ None
no_callee look o g xs are q at none = ap (callee_of look.functions.now) (sym (callee_found o g xs are q at)) ∙ sym none

callee_below : (functions : List Pointer) (q : Pointer) (n : ℕ) → callee_of functions q ≡ Some n → n < length functions
unfolding callee_of
callee_below functions q n e = let k = position_below 0 functions q n e in omega arith

-- the function that a pointer stands for, with the types of what that keeps
pub stands_for : (look : KeptLook) → IsReady look → (o : Operands) (to : SpawnGiven o) (xs : List Val) → xs ≡ o.args → (q : Pointer) → slice_get xs 0 ≡ Some (val.Ptr q) → (number : ℕ) → Some number ≡ callee_of look.functions.now q → StandsFor look to.callee number
stands_for look ready o to xs are q at number found =
    let called : callee_of look.functions.now to.callee ≡ Some number = ap (callee_of look.functions.now) (sym (callee_found o to xs are q at)) ∙ sym found in
    let below : number < length look.program.now.functions = (let k = callee_below look.functions.now to.callee number called in let many = ready.functions in omega arith) in
    let fn = item_there look.program.now.functions number below in
    let kept = kept_there look.program.now fn.0 (function_keeps look.program.now ready.well number fn.0 fn.1) in
    record { called = called; function = fn.0; there = fn.1; types = kept.ret ∷ kept.args; typed = kept.is }

pub spawns : (look : KeptLook) (stack : KeptStack) (s : Scene) (x : Tables) (call : DoCall) (d : DueDo) → IsGiven look stack s x call d → d.op ≡ intrinsic.Spawn → (to : SpawnGiven (operands_of call))
    → (xs : List Val) → xs ≡ call.args.items → (q : Pointer) → slice_get xs 0 ≡ Some (val.Ptr q) → (number : ℕ) → Some number ≡ callee_of look.functions.now q → SpawnsFunction look stack s x call d number
spawns look stack s x call d g is to xs are q at number found =
    let f = stands_for look g.ready (operands_of call) to xs are q at number found in
    record {
      given = g;
      is = is;
      given_to = to;
      called = f.called;
      function = f.function;
      there = f.there;
      types = f.types;
      typed = f.typed;
    }

-- what is found of the types of a function
pub found_types : (f function : Function) (types : List Ty) → f ≡ function → kept_types function ≡ Some types → (b : Bool) → ((ts : List Ty) → kept_types f ≡ Some ts → b ≡ same_types thread_types ts) → b ≡ same_types thread_types types
found_types f function types same typed b told = told types (ap kept_types same ∙ typed)

pub found_start : (look : KeptLook) (stack : KeptStack) (s : Scene) (x : Tables) (call : DoCall) (d : DueDo) (number : ℕ) (h : SpawnsFunction look stack s x call d number) (f : Function)
    → slice_get look.program.now.functions number ≡ Some f → (b : Bool) → ((types : List Ty) → kept_types f ≡ Some types → b ≡ same_types thread_types types) → b ≡ same_types thread_types h.types
found_start look stack s x call d number h f at b told = found_types f h.function h.types (same_Some f h.function (sym at ∙ h.there)) h.typed b told

-- its picks break no rule
pub start_fits : (look : KeptLook) (stack : KeptStack) (s : Scene) (x : Tables) (call : DoCall) (d : DueDo) (number : ℕ) (picks : List ℕ) (h : SpawnsFunction look stack s x call d number) → same_types thread_types h.types ≡ true
    → else_fault (creation_fault (shared_in s x) CreatesThread) (asks_break s x (Address 0 1 ∷ Address 8 8 ∷ []) picks) ≡ None → StartsThread look stack s x call d number picks
start_fits look stack s x call d number picks h same met =
    let parts = no_faults (creation_fault (shared_in s x) CreatesThread) (asks_break s x (Address 0 1 ∷ Address 8 8 ∷ []) picks) met in
    record {
      given = h.given;
      is = h.is;
      given_to = h.given_to;
      at = record { called = h.called; function = h.function; there = h.there; types = h.types; typed = h.typed; same = same };
      lawful =
          ap (λ asks. picks_fault [] (ranges_of s.memory) s.thread s.count asks picks) thread_asks
          ∙ sym (same_statuses x.statuses [] (ranges_of s.memory) s.thread s.count (Address 0 1 ∷ Address 8 8 ∷ []) picks tt) ∙ parts.1;
      few = few_from (shared_in s x) parts.0;
    }

-- ---- the start, as the code takes it

pub starts_for : (look : KeptLook) (stack : KeptStack) (s : Scene) (x : Tables) (call : DoCall) (number : ℕ) (picks : List ℕ) → (e : DueDo) × StartsThread look stack s x call e number picks
    → (d : DueDo) → next_do (look_of look) (stack_of stack) ≡ Some d → StartsThread look stack s x call d number picks
starts_for look stack s x call number picks (e, h) d due = subst (λ (f : DueDo). StartsThread look stack s x call f number picks) (same_Some e d (sym h.given.due ∙ due)) h

-- what stands behind the first argument
behind_callee : (o : Operands) (g : SpawnGiven o) (xs : List Val) → xs ≡ o.args → take (length xs - 1) (drop 1 xs) ≡ g.argument ∷ []
behind_callee o g xs are = ap (λ l. take (length l - 1) (drop 1 l)) (are ∙ g.args)

module _ (look : KeptLook) (stack : KeptStack) (s : Scene) (x : Tables) (call : DoCall) (d : DueDo) (number : ℕ) (picks : List ℕ) (h : StartsThread look stack s x call d number picks) (xs : List Val) (are : xs ≡ call.args.items) where
  pub begins_with : CanBegin look number (take (length xs - 1) (drop 1 xs)) picks (world_of s)
  begins_with =
      subst (λ vs. CanBegin look number vs picks (world_of s)) (sym (behind_callee (operands_of call) h.given_to xs are)) (thread_begins look stack s x call d number picks h)

  module _ (m : ℕ) (count : m ≡ length x.statuses) where
    pub start_ends : CanEnd look stack call (Some (val.Int m))
    start_ends = record {
      ready = h.given.ready;
      fits = h.given.fits;
      due = d;
      is = h.given.due;
      result =
          result_fits d.op (operands_of call) (Some (val.Int m)) h.given.operands
          (subst (λ n. ValueFits call.result_type (Some (val.Int n))) (sym count) (number_fits look stack s x call d number picks h));
    }

    pub started : (s' : Scene) (new : KeptStack) → IsBottom (entered number (slice_get look.program.now.functions number) (take (length xs - 1) (drop 1 xs)) picks (world_of s)) (stack_of new) (world_of s')
        → (x' : Tables) → x' ≡ (spawned x).1 → (r : Result Deed TurnFault) (stack' : KeptStack) (s'' : Scene)
        → EndAnswer r (ended (stack_of stack) d (operands_of call) (Some (val.Int m)) (world_of s')) (stack_of stack') (world_of s'') s''.notes.refused (IsNewThread new m)
        → DeedAnswer r (do_comes_to look stack s x call d picks) s''.notes.refused (Does stack s x (do_comes_to look stack s x call d picks) stack' s'' x')
    started s' new bottom x' tables r stack' s'' e =
        let bottom_of : IsBottom (entered number (slice_get look.program.now.functions number) (h.given_to.argument ∷ []) picks (world_of s)) (stack_of new) (world_of s') =
        subst (λ vs. IsBottom (entered number (slice_get look.program.now.functions number) vs picks (world_of s)) (stack_of new) (world_of s')) (behind_callee (operands_of call) h.given_to xs are) bottom in
        end_is_deed r (ended (stack_of stack) d (operands_of call) (Some (val.Int (length x.statuses))) (world_of s')) (stack_of stack') (world_of s'') s''.notes.refused (IsNewThread new (length x.statuses))
        (Does stack s x (do_comes_to look stack s x call d picks) stack' s'' x') (do_comes_to look stack s x call d picks)
        (subst (λ n. EndAnswer r (ended (stack_of stack) d (operands_of call) (Some (val.Int n)) (world_of s')) (stack_of stack') (world_of s'') s''.notes.refused (IsNewThread new n)) count e)
        (λ deed went n. start_done look stack s x call d number picks h s' new bottom_of stack' s'' x' deed went tables n.flow n.event n.woken n.started n.text)
        (λ q went. start_refused look stack s x call d number picks h s' new bottom_of q went)
