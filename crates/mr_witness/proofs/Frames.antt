-- No step of a frame is refused with a data race.
use Rattle.mr_witness.proofs.Common.{◌≡◌, ℕ, refl, List, [], ◌∷◌, map, Bool, true, false, Option, Some, None, sym, subst, if◌then◌else◌, slice_get, plainly, Ty, Pointer, SignatureMismatch, Val, Done, IllFormed, Undefined, ◌>>=◌, MemoryScript, reading_part, or_ill_formed, pointer_of_value, ReadScript, loading}
use Rattle.mr_ast.specs.declared.expr.Place.{Place}
use Rattle.mr_ast.specs.declared.expr.Value.{Value}
use Rattle.mr_ast.specs.declared.program.BlockName.{BlockName}
use Rattle.mr_ast.specs.declared.program.Function.{Function}
use Rattle.mr_ast.specs.declared.program.Local.{Local}
use Rattle.mr_ast.specs.declared.program.Stmt.{Stmt}
use Rattle.mr_ast.specs.declared.program.Term.{Term}
use Rattle.mr_ast.specs.declared.types.Num.{Num}
use Rattle.mr_ast.specs.declared.types.Tag.{Tag}
use Rattle.mr_base.specs.declared.reason.Reason.TheVariants.{MainReturned}
use Rattle.mr_layout.specs.Sizes.{align_of}
use Rattle.mr_value.specs.Encode.{encoding_of}
use Rattle.mr_value.specs.Shape.{has_shape}
use Rattle.mr_eval.specs.TypingTypes.{type_of_place, type_of_value}
use Rattle.mr_eval.specs.TypingWalk.{begins_regular}
use Rattle.mr_eval.specs.Evaluation.{Surround, place_script, stored, value_script, values_script}
use Rattle.mr_exchange.specs.PlanMachine.{CreatesNothing, Plan}
use Rattle.mr_exchange.specs.StartFrameCalls.{Targets, all_there, allocate_each, behind_first, both_there, call, call_function, call_number, call_plan, callee_of, calling, enter, enter_at, enter_with, free_each, give_result, give_to, given_types, is_main, kept_types, leave, local_type, resume, return_from, return_value, same_types, storage_asks, store_each, targets_of, unwind, unwind_in, unwind_to}
use Rattle.mr_exchange.specs.StartFrameChanges.{Change, change, free_storage, store, tags_in, validate_at, with_type, write, write_found, write_tags}
use Rattle.mr_exchange.specs.StartFrameFrames.{Frame, GoesOn, Look, Onward, Stack, scene_in}
use Rattle.mr_exchange.specs.StartFrameOperations.{DueDo, Operands, finish, operands, operands_in, result_place, result_type, store_result}
use Rattle.mr_exchange.specs.StartFrameSites.{AtDo, AtStatement, AtTerminator, Due, Site, due_of, site_of}
use Rattle.mr_exchange.specs.StartFrameSteps.{dead, frame_plan, live, live_at, next, plain, plan_at, plan_due, statement, terminator}
use Rattle.mr_exchange.specs.StartFrameSwitches.{number_as, switched}
use Rattle.mr_exchange.proofs.StartFrameStatements.{by_kind, changes}
use Rattle.mr_ast.specs.declared.program.Stmt.TheVariants as stmt
use Rattle.mr_ast.specs.declared.program.Term.TheVariants as term
use Rattle.mr_witness.proofs.Calm.{Anything, Calms, calms_then, reading_calms}
use Rattle.mr_witness.proofs.Expressions.{Reads, found_reads, loading_reads, place_reads, stored_reads, value_reads, values_read}

-- a script over memory that is refused with no data race
abbrev pub Acts : {A : Type 0} → MemoryScript A → Type 0
Acts m = Calms Anything m

acts_then : {A B : Type 0} (m : MemoryScript A) (f : A → MemoryScript B) → Acts m → ((a : A) → Acts (f a)) → Acts (m >>= f)
acts_then m f h k = calms_then Anything Anything m f h (λ a any. k a)

-- evaluation, and what is done behind it
read_then : {A B : Type 0} (m : ReadScript A) (f : A → MemoryScript B) → Reads m → ((a : A) → Acts (f a)) → Acts (reading_part m >>= f)
read_then m f h k = acts_then (reading_part m) f (reading_calms Anything m h) k

-- ---- changes

store_acts : (t : Ty) (p : Pointer) (v : Val) → Acts (store t p v)
store_acts t p v = by (has_shape t v)
  where
    by : (b : Bool) → Acts {A = Unit {0}} (if b then write p (encoding_of t v) (align_of t) else IllFormed)
    by true = λ x. tt
    by false = tt

free_acts : (t : Ty) (o : Option Pointer) → Acts (free_storage t o)
free_acts t None = tt
free_acts t (Some p) = λ x. tt

typed_acts : (t : Option Ty) (f : Ty → Change) → ((u : Ty) → Acts (f u)) → Acts (with_type t f)
typed_acts None f h = tt
typed_acts (Some t) f h = h t

tags_act : (p : Pointer) (tags : List Tag) → Acts (write_tags p tags)
tags_act p [] = tt
tags_act p (tag ∷ tags) = λ x. tags_act p tags

found_tags_act : (p : Pointer) (o : Option (List Tag)) → Acts (write_found p o)
found_tags_act p None = tt
found_tags_act p (Some tags) = tags_act p tags

change_acts : (s : Surround) (x : Stmt) → Acts (change s x)
change_acts s (stmt.Assign place value) =
    read_then (place_script s place) _ (place_reads s place) (λ p. read_then (value_script s value) _ (value_reads s value) (λ v. typed_acts (type_of_place s.locals place) (λ t. store t p v) (λ t. store_acts t p v)))
change_acts s (stmt.Mention place) = read_then (place_script s place) _ (place_reads s place) (λ p. tt)
change_acts s (stmt.Disc place number) = read_then (place_script s place) _ (place_reads s place) (λ p. found_tags_act p (tags_in (type_of_place s.locals place) number))
change_acts s (stmt.Deinit place) = read_then (place_script s place) _ (place_reads s place) (λ p. typed_acts (type_of_place s.locals place) _ (λ t x. tt))
change_acts s (stmt.Validate place) =
    read_then (place_script s place) _ (place_reads s place) (λ p. typed_acts (type_of_place s.locals place) (validate_at p) (λ t. read_then (loading t p) _ (loading_reads t p) (λ v. store_acts t p v)))
change_acts s (stmt.Live x) = tt
change_acts s (stmt.Dead x) = tt

-- ---- calls

allocates_act : (types : List Ty) (picks : List ℕ) → Acts (allocate_each types picks)
allocates_act [] [] = tt
allocates_act [] (a ∷ picks) = tt
allocates_act (t ∷ types) [] = tt
allocates_act (t ∷ types) (a ∷ picks) = λ p. acts_then (allocate_each types picks) (λ ps. Done (p ∷ ps)) (allocates_act types picks) (λ ps. tt)

stores_act : (types : List Ty) (ps : List Pointer) (vs : List Val) → Acts (store_each types ps vs)
stores_act [] [] [] = tt
stores_act [] [] (v ∷ vs) = tt
stores_act [] (p ∷ ps) vs = tt
stores_act (t ∷ types) [] vs = tt
stores_act (t ∷ types) (p ∷ ps) [] = tt
stores_act (t ∷ types) (p ∷ ps) (v ∷ vs) = acts_then (store t p v) _ (store_acts t p v) (λ u. stores_act types ps vs)

enter_at_acts : (number : ℕ) (fn : Function) (types : Option (List Ty)) (vs : List Val) (picks : List ℕ) → Acts (enter_at number fn types vs picks)
enter_at_acts number fn None vs picks = tt
enter_at_acts number fn (Some types) vs picks = by (begins_regular fn.blocks)
  where
    by : (b : Bool) → Acts {A = Frame} (if b then enter_with number fn types vs picks else IllFormed)
    by true = acts_then (allocate_each types picks) _ (allocates_act types picks) (λ ps. acts_then (store_each (behind_first types) (behind_first ps) vs) _ (stores_act (behind_first types) (behind_first ps) vs) (λ u. tt))
    by false = tt

pub enter_acts : (number : ℕ) (fn : Option Function) (vs : List Val) (picks : List ℕ) → Acts (enter number fn vs picks)
enter_acts number None vs picks = tt
enter_acts number (Some fn) vs picks = enter_at_acts number fn (kept_types fn) vs picks

frees_act : (ls : List Local) (os : List (Option Pointer)) → Acts (free_each ls os)
frees_act [] [] = tt
frees_act [] (o ∷ os) = tt
frees_act (l ∷ ls) [] = tt
frees_act (l ∷ ls) (o ∷ os) = acts_then (free_storage l.ty o) (λ u. free_each ls os) (free_acts l.ty o) (λ u. frees_act ls os)

gives_act : (s : Stack) (caller : Frame) (below : List Frame) (t : Option Ty) (v : Val) (b : Option BlockName) (place : Option Pointer) → Acts (give_result s caller below t v b place)
gives_act s caller below t v None place = refl
gives_act s caller below None v (Some b) place = tt
gives_act s caller below (Some t) v (Some b) None = tt
gives_act s caller below (Some t) v (Some b) (Some place) = acts_then (store t place v) _ (store_acts t place v) (λ u. tt)

gives_to_act : (s : Stack) (caller : Frame) (below : List Frame) (t : Option Ty) (v : Val) (o : Option Targets) → Acts (give_to s caller below t v o)
gives_to_act s caller below t v None = tt
gives_to_act s caller below t v (Some targets) = gives_act s caller below t v targets.next caller.call

leaves_act : (look : Look) (s : Stack) (t : Option Ty) (v : Val) (frames : List Frame) → Acts (leave look s t v frames)
leaves_act look s t v [] = tt
leaves_act look s t v (caller ∷ below) = gives_to_act s caller below t v (targets_of look caller)

value_returned : (fn : Function) (f : Frame) → Reads (return_value fn f)
value_returned fn f =
    calms_then Anything Anything (stored (slice_get f.locals fn.ret.0)) _ (stored_reads (slice_get f.locals fn.ret.0))
    (λ p any. calms_then Anything Anything (or_ill_formed (local_type fn fn.ret)) _ (found_reads (local_type fn fn.ret)) (λ t any2. loading_reads t p))

returns_act : (look : Look) (thread : ℕ) (s : Stack) (site : Site) → Acts (return_from look thread s site)
returns_act look thread s site = by (is_main thread site.below)
  where
    by : (b : Bool) → Acts {A = Onward} (if b then Undefined (plainly MainReturned) else (reading_part (return_value site.function site.frame) >>= λ v. free_each site.function.locals site.frame.locals >>= λ u. leave look s (local_type site.function site.function.ret) v site.below))
    by true = refl
    by false =
        read_then (return_value site.function site.frame) _ (value_returned site.function site.frame)
        (λ v. acts_then (free_each site.function.locals site.frame.locals) _ (frees_act site.function.locals site.frame.locals) (λ u. leaves_act look s (local_type site.function site.function.ret) v site.below))

unwinds_to_act : (s : Stack) (site : Site) (caller : Frame) (below : List Frame) (b : Option BlockName) → Acts (unwind_to s site caller below b)
unwinds_to_act s site caller below None = refl
unwinds_to_act s site caller below (Some b) = acts_then (free_each site.function.locals site.frame.locals) _ (frees_act site.function.locals site.frame.locals) (λ u. tt)

unwinds_in_act : (s : Stack) (site : Site) (caller : Frame) (below : List Frame) (o : Option Targets) → Acts (unwind_in s site caller below o)
unwinds_in_act s site caller below None = tt
unwinds_in_act s site caller below (Some targets) = unwinds_to_act s site caller below targets.unwind

resumes_act : (look : Look) (s : Stack) (site : Site) (frames : List Frame) → Acts (resume look s site frames)
resumes_act look s site [] = refl
resumes_act look s site (caller ∷ below) = unwinds_in_act s site caller below (targets_of look caller)

unwinds_act : (look : Look) (s : Stack) (site : Site) (payload : Value) (b : ℕ) → Acts (unwind look s site payload b)
unwinds_act look s site payload b =
    let here = scene_in look site.function site.frame in
    read_then (value_script here payload) _ (value_reads here payload) (λ v. read_then (pointer_of_value v) _ (found_reads _) (λ p. tt))

-- ---- plans

-- whatever is picked, what the plan does is refused with no data race
abbrev pub PlanActs : Plan (MemoryScript Onward) → Type 0
PlanActs plan = (picks : List ℕ) → Acts (plan.go picks)

abbrev Plans : ReadScript (Plan (MemoryScript Onward)) → Type 0
Plans m = Calms PlanActs m

plans_then : {A : Type 0} (m : ReadScript A) (f : A → ReadScript (Plan (MemoryScript Onward))) → Reads m → ((a : A) → Plans (f a)) → Plans (m >>= f)
plans_then m f h k = calms_then Anything PlanActs m f h (λ a any. k a)

module _ (look : Look) (s : Stack) (site : Site) where
  live_at_acts : (x : ℕ) (t : Ty) (storage : Option Pointer) (picks : List ℕ) → Acts (live_at s site x t storage picks)
  live_at_acts x t storage [] = tt
  live_at_acts x t storage (a ∷ []) = acts_then (free_storage t storage) _ (free_acts t storage) (λ u p. tt)
  live_at_acts x t storage (a ∷ b ∷ picks) = tt

  live_plans : (x : ℕ) (l : Option Local) (storage : Option (Option Pointer)) → Plans (live s site x l storage)
  live_plans x (Some l) (Some storage) = live_at_acts x l.ty storage
  live_plans x (Some l) None = tt
  live_plans x None storage = tt

  dead_acts : (x : ℕ) (l : Option Local) (storage : Option (Option Pointer)) → Acts (dead s site x l storage)
  dead_acts x (Some l) (Some storage) = acts_then (free_storage l.ty storage) _ (free_acts l.ty storage) (λ u. tt)
  dead_acts x (Some l) None = tt
  dead_acts x None storage = tt

  changed : (x : Stmt) → Acts (change (scene_in look site.function site.frame) x >>= λ _. Done (next s site site.frame))
  changed x = acts_then (change (scene_in look site.function site.frame) x) _ (change_acts (scene_in look site.function site.frame) x) (λ u. tt)

  statement_plans : (x : Stmt) → Plans (statement look s site x)
  statement_plans =
      by_kind (λ x. Plans (statement look s site x))
      (λ x. live_plans x.0 (slice_get site.function.locals x.0) (slice_get site.frame.locals x.0))
      (λ x picks. dead_acts x.0 (slice_get site.function.locals x.0) (slice_get site.frame.locals x.0))
      (λ x kind. subst Plans (sym (changes look s site x kind)) (λ picks. changed x))

  call_plans : (place : Pointer) (number : ℕ) (fn : Function) (vs : List Val) (types : Option (List Ty × List Ty)) → Plans (call_plan s site place number fn vs types)
  call_plans place number fn vs None = tt
  call_plans place number fn vs (Some types) = by (same_types types.0 types.1)
    where
      by : (b : Bool) → Plans (if b then Done (record { creates = CreatesNothing; asks = storage_asks types.1; go = λ picks. enter number (Some fn) vs picks >>= λ new. Done (GoesOn (calling s site place new)) }) else Undefined (plainly SignatureMismatch))
      by true = λ picks. acts_then (enter number (Some fn) vs picks) _ (enter_acts number (Some fn) vs picks) (λ new. tt)
      by false = refl

  function_plans : (given : Option (List Ty)) (place : Pointer) (vs : List Val) (number : ℕ) (fn : Option Function) → Plans (call_function look s site given place vs number fn)
  function_plans given place vs number None = tt
  function_plans given place vs number (Some fn) = call_plans place number fn vs (both_there given (kept_types fn))

  number_plans : (given : Option (List Ty)) (place : Pointer) (vs : List Val) (o : Option ℕ) → Plans (call_number look s site given place vs o)
  number_plans given place vs None = refl
  number_plans given place vs (Some number) = function_plans given place vs number (slice_get look.program.functions number)

  calls_plan : (callee : Value) (args : List Value) (place : Place) → Plans (call look s site callee args place)
  calls_plan callee args place =
      let here = scene_in look site.function site.frame in
      plans_then (place_script here place) _ (place_reads here place)
      (λ p. plans_then (value_script here callee) _ (value_reads here callee)
      (λ f. plans_then (pointer_of_value f) _ (found_reads _)
      (λ c. plans_then (values_script here args) _ (values_read here args)
      (λ vs. number_plans (given_types here place args) p vs (callee_of look.functions c)))))

  switch_reads : (value : Value) (cases : List (Num × BlockName)) (other : BlockName) → Reads (switched (scene_in look site.function site.frame) value cases other)
  switch_reads value cases other =
      let here = scene_in look site.function site.frame in
      calms_then Anything Anything (value_script here value) _ (value_reads here value) (λ v any. calms_then Anything Anything (or_ill_formed (number_as (type_of_value here.locals value) v)) _ (found_reads (number_as (type_of_value here.locals value) v)) (λ n any2. tt))

  terminator_plans : (thread : ℕ) (t : Term) → Plans (terminator look thread s site t)
  terminator_plans thread (term.Goto b) = λ picks. tt
  terminator_plans thread (term.Switch value cases other) = λ picks. read_then (switched (scene_in look site.function site.frame) value cases other) _ (switch_reads value cases other) (λ b. tt)
  terminator_plans thread term.Unreachable = λ picks. refl
  terminator_plans thread (term.Call callee args place next unwind) = calls_plan callee args place
  terminator_plans thread term.Return = λ picks. returns_act look thread s site
  terminator_plans thread (term.Unwind value b) = λ picks. unwinds_act look s site value b.0
  terminator_plans thread term.Resume = λ picks. resumes_act look s site site.below
  terminator_plans thread (term.Stop b) = λ picks. tt
  terminator_plans thread term.Exit = λ picks. tt
  terminator_plans thread term.Abort = λ picks. tt
  terminator_plans thread (term.Do op args place next) = tt

  due_plans : (thread : ℕ) (o : Option Due) → Plans (plan_due look thread s site o)
  due_plans thread None = tt
  due_plans thread (Some (AtStatement x)) = statement_plans x
  due_plans thread (Some (AtTerminator t)) = terminator_plans thread t
  due_plans thread (Some (AtDo op args place next)) = tt

-- THE STEP OF A FRAME
pub frame_plans : (look : Look) (thread : ℕ) (s : Stack) → Plans (frame_plan look thread s)
unfolding frame_plan
frame_plans look thread s = by (site_of look s)
  where
    by : (o : Option Site) → Plans (plan_at look thread s o)
    by None = tt
    by (Some site) = due_plans look s site thread (due_of site)

-- ---- intrinsics

place_result : (s : Surround) (o : Option Place) → Reads (result_place s o)
place_result s None = tt
place_result s (Some place) = calms_then Anything Anything (place_script s place) _ (place_reads s place) (λ p any. tt)

type_result : (s : Surround) (o : Option Place) → Reads (result_type s o)
type_result s None = tt
type_result s (Some place) = calms_then Anything Anything (or_ill_formed (type_of_place s.locals place)) _ (found_reads _) (λ t any. tt)

-- what an intrinsic is given
pub operands_read : (look : Look) (d : DueDo) → Reads (operands look d)
operands_read look d =
    let s = scene_in look d.site.function d.site.frame in
    calms_then Anything Anything (result_place s d.place) _ (place_result s d.place)
    (λ p any. calms_then Anything Anything (values_script s d.args) _ (values_read s d.args)
    (λ vs any2. calms_then Anything Anything (result_type s d.place) _ (type_result s d.place)
    (λ t any3. calms_then Anything Anything (or_ill_formed (all_there (map (type_of_value s.locals) d.args))) _ (found_reads (all_there (map (type_of_value s.locals) d.args))) (λ ts any4. tt))))

result_acts : (p : Option Pointer) (t : Option Ty) (v : Option Val) → Acts (store_result p t v)
result_acts None None None = tt
result_acts None None (Some v) = tt
result_acts None (Some t) v = tt
result_acts (Some p) None v = tt
result_acts (Some p) (Some t) None = tt
result_acts (Some p) (Some t) (Some v) = store_acts t p v

-- and how it ends
pub finish_acts : (s : Stack) (d : DueDo) (o : Operands) (v : Option Val) → Acts (finish s d o v)
finish_acts s d o v = acts_then (store_result o.result o.result_type v) _ (result_acts o.result o.result_type v) (λ u. tt)
