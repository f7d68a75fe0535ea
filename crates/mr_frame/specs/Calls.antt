-- How functions are called and how they end, as scripts. (MiniRust, lang: calls and returns, unwinding.)
use Rattle.std.specs.Prelude.{ℕ, Bool, true, false, ◌==◌, ◌&&◌, if◌then◌else◌, List, [], ◌∷◌, length, map, replicate}
use Rattle.std.specs.Prelude.{slice_set, slice_get, suc, Option, None, Some}
use Rattle.std.specs.Option.{option_map}
use Rattle.mr_base.specs.Stops.{plainly}
use Rattle.mr_ast.specs.declared.expr.Place.{Place}
use Rattle.mr_ast.specs.declared.expr.Value.{Value}
use Rattle.mr_ast.specs.declared.program.Block.{Block}
use Rattle.mr_ast.specs.declared.program.BlockName.{BlockName}
use Rattle.mr_ast.specs.declared.program.Function.{Function}
use Rattle.mr_ast.specs.declared.program.Local.{Local}
use Rattle.mr_ast.specs.declared.program.LocalName.{LocalName}
use Rattle.mr_ast.specs.declared.program.Term.{Term}
use Rattle.mr_ast.specs.declared.program.Term.TheVariants as term
use Rattle.mr_ast.specs.declared.types.Ty.{Ty}
use Rattle.mr_base.specs.declared.byte.AllocId.{AllocId}
use Rattle.mr_base.specs.declared.byte.Kind.TheVariants.{Stack as OnStack}
use Rattle.mr_base.specs.declared.byte.Pointer.{Pointer}
use Rattle.mr_base.specs.declared.reason.Reason.TheVariants.{MainReturned, NoReturnBlock, NoUnwindBlock, NotAFunction}
use Rattle.mr_base.specs.declared.reason.Reason.TheVariants.{SignatureMismatch, UnwoundThread}
use Rattle.mr_layout.specs.Sizes.{align_of, size_of}
use Rattle.mr_sched.specs.declared.schedule.Ask.{Ask}
use Rattle.mr_sched.specs.declared.schedule.Ask.TheVariants.{Address}
use Rattle.mr_value.specs.declared.val.Val.{Val}
use Rattle.mr_typing.specs.SameTypes.{same_type}
use Rattle.mr_typing.specs.Types.{type_of_place, type_of_value}
use Rattle.mr_typing.specs.Walk.{begins_regular}
use Rattle.mr_base.specs.Script.{Done, Undefined, IllFormed, Ask as Asks, ◌>>=◌}
use Rattle.mr_eval.specs.Evaluation.{Surround, place_script, stored, value_script, values_script}
use Rattle.mr_eval.specs.MemoryQueries.{Allocate, MemoryScript, reading_part}
use Rattle.mr_eval.specs.Operators.{or_ill_formed, pointer_of_value}
use Rattle.mr_eval.specs.Reads.{ReadScript}
use Rattle.mr_eval.specs.Typed.{loading}
use Rattle.mr_plan.specs.Machine.{Plan, CreatesNothing}
use Rattle.mr_frame.specs.Changes.{Change, free_storage, store}
use Rattle.mr_frame.specs.Frames.{Frame, Look, Stack, Onward, GoesOn, EndsThread, at_block, scene_in, with_top}
use Rattle.mr_frame.specs.Sites.{Site, kept_locals}
use Rattle.mr_base.specs.Identities.{same_id}

-- ---- which function is called

-- both have the same allocation, or neither has one
abbrev pub same_provenance : Option AllocId → Option AllocId → Bool
same_provenance None None = true
same_provenance (Some a) (Some b) = same_id a b
same_provenance _ _ = false

-- they have the same address and provenance
abbrev pub same_pointer : Pointer → Pointer → Bool
same_pointer p q = (p.addr == q.addr) && same_provenance p.prov q.prov

-- the position of the first pointer that is this one, counted on from a number
abbrev pub position_from : ℕ → List Pointer → Pointer → Option ℕ
position_from i [] p = None
position_from i (q ∷ qs) p = if same_pointer q p then Some i else position_from (suc i) qs p

-- the function for which a pointer stands: it has the function's address and its provenance
unfoldable pub callee_of : List Pointer → Pointer → Option ℕ
callee_of functions p = position_from 0 functions p

-- ---- whether arguments and result fit

-- both are there, or neither counts
abbrev pub both_there : {A B : Type 0} → Option A → Option B → Option (A × B)
both_there (Some a) (Some b) = Some (a, b)
both_there _ _ = None

-- all of them, where each is there
abbrev pub all_there : {A : Type 0} → List (Option A) → Option (List A)
all_there [] = Some []
all_there (x ∷ xs) = option_map (λ e. e.0 ∷ e.1) (both_there x (all_there xs))

-- one by one alike, and as many
abbrev pub same_types : List Ty → List Ty → Bool
same_types [] [] = true
same_types (t ∷ ts) (u ∷ us) = same_type t u && same_types ts us
same_types _ _ = false

-- the type of a local of a function
abbrev pub local_type : Function → LocalName → Option Ty
local_type fn x = option_map (λ (l : Local). l.ty) (slice_get fn.locals x.0)

-- the types of the return local and of the arguments
abbrev pub kept_types : Function → Option (List Ty)
kept_types fn = all_there (map (local_type fn) (kept_locals fn))

-- the types of the place for a result and of arguments
abbrev pub given_types : Surround → Place → List Value → Option (List Ty)
given_types s place args = all_there (type_of_place s.locals place ∷ map (type_of_value s.locals) args)

-- ---- the storage of a new frame

-- what is asked for: an address for each
abbrev pub storage_asks : List Ty → List Ask
storage_asks types = map (λ t. Address (size_of t) (align_of t)) types

-- new storage for each, at the picked addresses
abbrev pub allocate_each : List Ty → List ℕ → MemoryScript (List Pointer)
allocate_each [] [] = Done []
allocate_each (t ∷ ts) (a ∷ rest) =
    Asks (Allocate OnStack (size_of t) (align_of t) a) Done >>= λ p. allocate_each ts rest >>= λ ps. Done (p ∷ ps)
allocate_each _ _ = IllFormed

-- each value is stored at its pointer, in order
abbrev pub store_each : List Ty → List Pointer → List Val → Change
store_each [] [] [] = Done tt
store_each (t ∷ ts) (p ∷ ps) (v ∷ vs) = store t p v >>= λ _. store_each ts ps vs
store_each _ _ _ = IllFormed

-- locals of which some have storage
abbrev pub with_each : List (Option Pointer) → List LocalName → List Pointer → List (Option Pointer)
with_each locals (x ∷ xs) (p ∷ ps) = with_each (slice_set locals x.0 (Some p)) xs ps
with_each locals _ _ = locals

-- the frame of a function at its start
abbrev pub first_frame : ℕ → Function → List Pointer → Frame
first_frame number fn ps = record {
  function = number;
  locals = with_each (replicate (length fn.locals) None) (kept_locals fn) ps;
  block = 0;
  at = 0;
  call = None;
}

-- the rest of a list behind its first element
abbrev pub behind_first : {A : Type 0} → List A → List A
behind_first [] = []
behind_first (x ∷ xs) = xs

-- the return local and the arguments get storage, in this order, and then the arguments are stored
abbrev pub enter_with : ℕ → Function → List Ty → List Val → List ℕ → MemoryScript Frame
enter_with number fn types vs picks = do
  ps ← allocate_each types picks
  _ ← store_each (behind_first types) (behind_first ps) vs
  Done (first_frame number fn ps)

-- the first frame of a function, where the types of what it keeps are known and it begins with a regular block
abbrev pub enter_at : ℕ → Function → Option (List Ty) → List Val → List ℕ → MemoryScript Frame
enter_at number fn None vs picks = IllFormed
enter_at number fn (Some types) vs picks =
    if begins_regular fn.blocks then enter_with number fn types vs picks else IllFormed

-- THE START OF A FUNCTION: its frame, with the values of its arguments
abbrev pub enter : ℕ → Option Function → List Val → List ℕ → MemoryScript Frame
enter number None vs picks = IllFormed
enter number (Some fn) vs picks = enter_at number fn (kept_types fn) vs picks

-- ---- call

-- the caller keeps the place for the result, and the callee's frame stands above it
abbrev pub calling : Stack → Site → Pointer → Frame → Stack
calling s site place new = with_top s (record site.frame { call = Some place } ∷ site.below) new

-- what a step finds out by reading, before it needs a pick
abbrev pub FramePlan : Type 0
FramePlan = ReadScript (Plan (MemoryScript Onward))

-- the plan of a call of a function with these types: 118 where those that are given differ
abbrev pub call_plan : Stack → Site → Pointer → ℕ → Function → List Val → Option (List Ty × List Ty) → FramePlan
call_plan s site place number fn vs None = IllFormed
call_plan s site place number fn vs (Some types) =
    if same_types types.0 types.1
    then Done (record {
      creates = CreatesNothing;
      asks = storage_asks types.1;
      go = λ picks. enter number (Some fn) vs picks >>= λ new. Done (GoesOn (calling s site place new));
    })
    else Undefined (plainly SignatureMismatch)

-- the call of the function of this number, which is to be there
abbrev pub call_function : Look → Stack → Site → Option (List Ty) → Pointer → List Val → ℕ → Option Function → FramePlan
call_function look s site given place vs number None = IllFormed
call_function look s site given place vs number (Some fn) =
    call_plan s site place number fn vs (both_there given (kept_types fn))

-- the call of a function of the program; what has no number is none
abbrev pub call_number : Look → Stack → Site → Option (List Ty) → Pointer → List Val → Option ℕ → FramePlan
call_number look s site given place vs None = Undefined (plainly NotAFunction)
call_number look s site given place vs (Some number) =
    call_function look s site given place vs number (slice_get look.program.functions number)

-- `call`: the place for the result, the callee, the arguments; then 117, 118; then the callee's frame
abbrev pub call : Look → Stack → Site → Value → List Value → Place → FramePlan
call look s site callee args place =
    let here = scene_in look site.function site.frame in do
      p ← place_script here place
      f ← value_script here callee
      c ← pointer_of_value f
      vs ← values_script here args
      call_number look s site (given_types here place args) p vs (callee_of look.functions c)

-- ---- the end of a function

-- the storage of each local goes, by rising number
abbrev pub free_each : List Local → List (Option Pointer) → Change
free_each [] [] = Done tt
free_each (l ∷ ls) (storage ∷ rest) = free_storage l.ty storage >>= λ _. free_each ls rest
free_each _ _ = IllFormed

-- where a caller's call goes on, behind a return and behind an unwinding
pub record Targets : Type 0 where
  pub next : Option BlockName
  pub unwind : Option BlockName

-- where a call goes on behind the return, and where behind unwinding
abbrev pub targets_in : Term → Option Targets
targets_in (term.Call callee args place next unwind) = Some (record { next = next; unwind = unwind })
targets_in _ = None

-- those of the call at which a frame stands: the terminator of its block
abbrev pub targets_at : Option Block → Option Targets
targets_at None = None
targets_at (Some b) = targets_in b.term

-- the same of the terminator of the block in which a frame of the function stands
abbrev pub targets_in_function : Frame → Option Function → Option Targets
targets_in_function f None = None
targets_in_function f (Some fn) = targets_at (slice_get fn.blocks f.block)

-- the same of a frame
abbrev pub targets_of : Look → Frame → Option Targets
targets_of look f = targets_in_function f (slice_get look.program.functions f.function)

-- the value of the return local
abbrev pub return_value : Function → Frame → ReadScript Val
return_value fn f =
    stored (slice_get f.locals fn.ret.0) >>= λ p. or_ill_formed (local_type fn fn.ret) >>= λ t. loading t p

-- the caller goes on at a block with the result in the place that it kept
abbrev pub give_result : Stack → Frame → List Frame → Option Ty → Val → Option BlockName → Option Pointer
    → MemoryScript Onward
give_result s caller below t v None place = Undefined (plainly NoReturnBlock)
give_result s caller below (Some t) v (Some b) (Some place) =
    store t place v >>= λ _. Done (GoesOn (with_top s below (at_block caller b.0)))
give_result s caller below _ v (Some b) _ = IllFormed

-- the result is stored where the call's terminator says, and the caller goes on
abbrev pub give_to : Stack → Frame → List Frame → Option Ty → Val → Option Targets → MemoryScript Onward
give_to s caller below t v None = IllFormed
give_to s caller below t v (Some targets) = give_result s caller below t v targets.next caller.call

-- behind a function's end its thread ends, or its caller goes on
abbrev pub leave : Look → Stack → Option Ty → Val → List Frame → MemoryScript Onward
leave look s t v [] = Done (EndsThread (record s { frames = [] }))
leave look s t v (caller ∷ below) = give_to s caller below t v (targets_of look caller)

-- whether a frame is the bottom one of thread 0
abbrev pub is_main : ℕ → List Frame → Bool
is_main thread [] = thread == 0
is_main thread (f ∷ below) = false

-- `return`: 120 in thread 0's bottom frame; else the result is loaded, the storage goes, and the caller has the result
abbrev pub return_from : Look → ℕ → Stack → Site → MemoryScript Onward
return_from look thread s site =
    if is_main thread site.below then Undefined (plainly MainReturned)
    else do
      v ← reading_part (return_value site.function site.frame)
      _ ← free_each site.function.locals site.frame.locals
      leave look s (local_type site.function site.function.ret) v site.below

-- ---- unwinding

-- the storage of the locals goes, and the caller goes on at the block to which its call unwinds
abbrev pub unwind_to : Stack → Site → Frame → List Frame → Option BlockName → MemoryScript Onward
unwind_to s site caller below None = Undefined (plainly NoUnwindBlock)
unwind_to s site caller below (Some b) =
    free_each site.function.locals site.frame.locals >>= λ _. Done (GoesOn (with_top s below (at_block caller b.0)))

-- unwinding goes on where the call's terminator says
abbrev pub unwind_in : Stack → Site → Frame → List Frame → Option Targets → MemoryScript Onward
unwind_in s site caller below None = IllFormed
unwind_in s site caller below (Some targets) = unwind_to s site caller below targets.unwind

-- `resume`: 122 in a bottom frame, 121 where the caller's call doesn't unwind
abbrev pub resume : Look → Stack → Site → List Frame → MemoryScript Onward
resume look s site [] = Undefined (plainly UnwoundThread)
resume look s site (caller ∷ below) = unwind_in s site caller below (targets_of look caller)

-- to the start of a block
abbrev pub goes_to : Stack → Site → ℕ → Onward
goes_to s site b = GoesOn (with_top s site.below (at_block site.frame b))

-- `unwind`: the value joins the payloads
abbrev pub unwind : Look → Stack → Site → Value → ℕ → MemoryScript Onward
unwind look s site payload b = do
  v ← reading_part (value_script (scene_in look site.function site.frame) payload)
  p ← reading_part (pointer_of_value v)
  Done (goes_to (record s { payloads = p ∷ s.payloads }) site b)

-- `stop`: the last payload goes, where there is one
abbrev pub stop : Stack → Site → ℕ → Onward
stop s site b = goes_to (record s { payloads = behind_first s.payloads }) site b
