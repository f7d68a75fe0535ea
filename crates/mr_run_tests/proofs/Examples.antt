-- Picks, races and short runs, and what the definitions say of them, computed.
use Rattle.std.proofs.Common.{◌≡◌, ℕ, suc, true, false, List, [], ◌∷◌, length, replicate, Option, Some, None, codes, refl, ap, ◌∙◌}
use Rattle.std.specs.Fmt.{digits}
use Rattle.mr_base.specs.Stops.{plainly}
use Rattle.mr_base.specs.Accesses.{some_race}
use Rattle.mr_base.specs.declared.access.Access.{Access}
use Rattle.mr_base.specs.declared.byte.AbstractByte.{AbstractByte}
use Rattle.mr_base.specs.declared.byte.AbstractByte.TheVariants.{Init, Uninit}
use Rattle.mr_base.specs.declared.byte.AllocId.{AllocId}
use Rattle.mr_base.specs.declared.byte.Pointer.{Pointer}
use Rattle.mr_base.specs.declared.reason.Reason.TheVariants as reason
use Rattle.mr_base.specs.declared.reason.Verdict.TheVariants as verdict
use Rattle.mr_base.specs.declared.thread.Event.TheVariants.{Quiet}
use Rattle.mr_base.specs.declared.thread.Status.TheVariants.{OnLock, Enabled}
use Rattle.mr_ast.specs.declared.types.Ty.{Ty}
use Rattle.mr_ast.specs.declared.types.Ty.TheVariants as ty
use Rattle.mr_ast.specs.declared.program.Block.{Block}
use Rattle.mr_ast.specs.declared.program.BlockKind.{BlockKind}
use Rattle.mr_ast.specs.declared.program.BlockKind.TheVariants.{Regular}
use Rattle.mr_ast.specs.declared.program.Function.{Function}
use Rattle.mr_ast.specs.declared.program.Item_.TheVariants as item
use Rattle.mr_ast.specs.declared.program.LocalName.{LocalName}
use Rattle.mr_ast.specs.declared.program.Program.{Program}
use Rattle.mr_ast.specs.declared.program.Stmt.{Stmt}
use Rattle.mr_ast.specs.declared.program.Target.TheVariants as target
use Rattle.mr_ast.specs.declared.program.Term.{Term}
use Rattle.mr_ast.specs.declared.program.Term.TheVariants as term
use Rattle.mr_layout.specs.Rules as layout_rules
use Rattle.mr_layout.specs.TypeOk.{broken_rule}
use Rattle.mr_layout.proofs.BrokenLaws.{broken_tuple}
use Rattle.mr_mem.specs.Memory.{Ranges, range_fault}
use Rattle.mr_sched.specs.declared.schedule.Ask.{Ask}
use Rattle.mr_sched.specs.declared.schedule.Ask.TheVariants.{Address, Waiter}
use Rattle.mr_sched.specs.declared.schedule.Entry.{Entry}
use Rattle.mr_event.specs.Footprint.{Footprint}
use Rattle.mr_event.specs.Footprints as footprints
use Rattle.mr_base.specs.Script.{Done, Undefined, ◌>>=◌, run as run_script}
use Rattle.mr_base.specs.declared.reason.Verdict.{Verdict}
use Rattle.mr_plan.specs.Machine.{CreatesNothing, settled, thread_of}
use Rattle.mr_plan.specs.Notes.{start_notes}
use Rattle.mr_plan.specs.Queries.{answer}
use Rattle.mr_frame.specs.Frames.{Frame, Look}
use Rattle.mr_frame.specs.Operations as operations
use Rattle.mr_frame.specs.Operations.{do_at}
use Rattle.std.specs.Prelude.{◌++◌, if◌then◌else◌}
use Rattle.mr_ast.specs.declared.rule.Rule.{Rule}
use Rattle.mr_typing.specs.Broken.{Rules}
use Rattle.mr_frame.specs.Sites.{Site, none_broken, site_of}
use Rattle.mr_frame.specs.Calls.{FramePlan}
use Rattle.mr_frame.specs.Steps.{plan_at}
use Rattle.mr_frame.specs.Sites as sites
use Rattle.mr_frame.specs.Steps as steps
use Rattle.mr_plan.specs.Legal.{Fault, fault, picks_fault}
use Rattle.mr_plan.specs.Runs.{Config, after_bare, machine_step, races_with}
use Rattle.mr_intr.specs.Texts.{number_text, spaced}
use Rattle.mr_start.specs.Steps.{Own, TurnPlan, in_step, own_step, reads, step_due, thread_step}
use Rattle.mr_start.specs.Runs.{run_of}
use Rattle.mr_start.specs.Start.{item_bytes, look_of, start_config, start_memory}
use Rattle.mr_sched.specs.declared.rule.ScheduleRule.TheVariants as rule

-- ---- numbers as they are printed

minus_seven : number_text (record { neg = true; mag = 7 }) ≡ codes "-7"
unfolding digits
minus_seven = refl

forty_two : number_text (record { neg = false; mag = 42 }) ≡ codes "42"
unfolding digits
forty_two = refl

three_texts : spaced (codes "1" ∷ codes "true" ∷ codes "-5" ∷ []) ≡ codes "1 true -5"
three_texts = refl

no_text : spaced [] ≡ []
no_text = refl

-- ---- picks

-- an allocation of the main thread
abbrev main_id : ℕ → AllocId
main_id count = record { thread = 0; count = count }

-- what thread 0 breaks by picks behind these ranges, having made two allocations, while thread 1 waits for lock 3
abbrev breaks : Ranges → List Ask → List ℕ → Option Fault
breaks rs asks picks = picks_fault (Enabled ∷ OnLock 3 ∷ []) rs 0 2 asks picks

-- an earlier allocation of four bytes at 8192
abbrev earlier : Ranges
earlier = (main_id 1, record { addr = 8192; size = 4 }) ∷ []

lawful : breaks earlier (Address 4 4 ∷ []) (8196 ∷ []) ≡ None
unfolding range_fault
lawful = refl

missing_pick : breaks [] (Address 1 1 ∷ Address 4 4 ∷ []) (16 ∷ []) ≡ fault rule.MissingPick
unfolding range_fault
missing_pick = refl

extra_pick : breaks [] [] (5 ∷ []) ≡ fault rule.ExtraPick
extra_pick = refl

misaligned : breaks earlier (Address 4 4 ∷ []) (8194 ∷ []) ≡ fault rule.BadAddress
unfolding range_fault
misaligned = refl

past_the_end : breaks [] (Address 4 4 ∷ []) (18446744073709551616 ∷ []) ≡ fault rule.BadAddress
unfolding range_fault
past_the_end = refl

overlapping : breaks earlier (Address 8 8 ∷ []) (8192 ∷ []) ≡ Some (record { code = 64; earlier = Some (main_id 1) })
unfolding range_fault
overlapping = refl

-- an earlier pick of the same step counts
overlapping_pick : breaks [] (Address 4 4 ∷ Address 4 4 ∷ []) (16 ∷ 16 ∷ []) ≡ Some (record { code = 64; earlier = Some (main_id 2) })
unfolding range_fault
overlapping_pick = refl

-- allocations without bytes may share an address
shared_address : breaks ((main_id 1, record { addr = 32; size = 0 }) ∷ []) (Address 0 1 ∷ []) (32 ∷ []) ≡ None
unfolding range_fault
shared_address = refl

-- the waiter of a lock is one that waits for it
waiter : breaks [] (Waiter 3 ∷ []) (1 ∷ []) ≡ None
waiter = refl

not_waiting : breaks [] (Waiter 3 ∷ []) (0 ∷ []) ≡ fault rule.NotWaiting
not_waiting = refl

waiting_for_another : breaks [] (Waiter 4 ∷ []) (1 ∷ []) ≡ fault rule.NotWaiting
waiting_for_another = refl

no_such_waiter : breaks [] (Waiter 3 ∷ []) (2 ∷ []) ≡ fault rule.NotWaiting
no_such_waiter = refl

-- ---- the race check

-- four bytes at 8192
abbrev access : Access
access = record { store = false; atomic = false; addr = 8192; len = 4 }

-- a step of a thread with an access, which woke these
abbrev step_of : ℕ → Access → List ℕ → Footprint
step_of t a woken = record {
  thread = t;
  accesses = a ∷ [];
  allocated = [];
  freed = [];
  touched = [];
  event = Quiet;
  ended = false;
  woken = woken;
}

abbrev stored : Access
stored = record access { store = true }

load_behind_store : races_with (step_of 0 access []) (Some (step_of 1 stored [])) ≡ true
unfolding some_race footprints.wakes
load_behind_store = refl

-- none with a step of its own thread, nor with one that woke it, nor between loads or atomic accesses
own_store : races_with (step_of 0 access []) (Some (step_of 0 stored [])) ≡ false
own_store = refl

store_that_woke : races_with (step_of 0 access []) (Some (step_of 1 stored (0 ∷ []))) ≡ false
unfolding footprints.wakes
store_that_woke = refl

load_behind_load : races_with (step_of 0 access []) (Some (step_of 1 access [])) ≡ false
unfolding some_race footprints.wakes
load_behind_load = refl

two_atomic_stores : races_with (step_of 0 (record stored { atomic = true }) []) (Some (step_of 1 (record stored { atomic = true }) [])) ≡ false
unfolding some_race footprints.wakes
two_atomic_stores = refl

atomic_behind_plain : races_with (step_of 0 (record stored { atomic = true }) []) (Some (step_of 1 stored [])) ≡ true
unfolding some_race footprints.wakes
atomic_behind_plain = refl

-- ---- runs

-- the type of the value without bytes
abbrev pub unit : Ty
unit = ty.Tuple 0 1 []

-- a program of these functions, of which the first is the main function
abbrev pub program : List Function → Program
program functions = record {
  edition = 1;
  globals = [];
  functions = functions;
  names = codes "f" ∷ codes "x" ∷ codes "b" ∷ [];
  start = record { 0 = 0 };
}

-- the first local, which holds what a function returns
abbrev pub result : LocalName
result = record { 0 = 0 }

-- a function with these arguments behind its first local; all its locals are units
abbrev pub function : List LocalName → List Block → Function
function args blocks = record {
  name = 0;
  args = args;
  ret = result;
  locals = replicate (suc (length args)) (record { name = 1; ty = unit });
  blocks = blocks;
}

abbrev pub block : BlockKind → List Stmt → Term → Block
block kind stmts end = record { name = 2; kind = kind; stmts = stmts; term = end }

-- a main function of one block, which ends so
abbrev pub small : BlockKind → Term → Program
small kind end = program (function [] (block kind [] end ∷ []) ∷ [])

-- a step of thread 0 with these picks
abbrev own : List ℕ → Entry
own picks = record { thread = 0; picks = picks }

abbrev run : Program → List Entry → Config Own
run p entries = run_of p (record { start = 16 ∷ 32 ∷ []; entries = entries })

-- a unit breaks no rule
pub unit_ok : broken_rule unit ≡ None
unfolding layout_rules.tuple_rules lib.Count.ones
unit_ok = broken_tuple 0 1 []

-- `return;`
returning : Program
returning = small Regular term.Return

-- its frame, which stands at the end
abbrev returning_look : Look
returning_look = look_of returning (16 ∷ 32 ∷ [])

abbrev returning_frame : Frame
returning_frame = record { function = 0; locals = Some (record { addr = 32; prov = Some (main_id 1) }) ∷ []; block = 0; at = 0; call = None }

abbrev returning_main : Own
returning_main = record { thread = 0; stack = record { frames = returning_frame ∷ []; payloads = [] } }

abbrev returning_here : Site
returning_here = record { function = function [] (block Regular [] term.Return ∷ []); block = block Regular [] term.Return; frame = returning_frame; below = [] }

-- no rule is broken there
returning_site : site_of returning_look returning_main.stack ≡ Some returning_here
unfolding look_of returning sites.site_of
returning_site =
    ap (λ (o : Option Rule). if none_broken ((((elim o as (λ _. Rules) [ Some broken ↦ broken ∷ [] | None ↦ [] ] ++ []) ++ []) ++ []) ++ []) then Some returning_here else None) unit_ok

returning_step : own_step returning_look returning_main ≡ Done (record { creates = CreatesNothing; asks = []; go = λ picks. Undefined (plainly reason.MainReturned) })
unfolding own_step operations.next_do steps.frame_plan sites.due_of
returning_step =
    ap (λ o. step_due returning_look returning_main (do_at o)) returning_site
    ∙ ap (λ (f : FramePlan). reads f >>= λ plan. Done (in_step returning_main plan)) (ap (plan_at returning_look 0 returning_main.stack) returning_site)

-- the verdict behind a step
abbrev verdict_of : TurnPlan → Verdict
verdict_of step = (after_bare (thread_step returning_look) (start_config returning (16 ∷ 32 ∷ []))
    (settled
    (record {
      shared = record { memory = start_memory returning (16 ∷ 32 ∷ []); statuses = Enabled ∷ []; holders = [] };
      threads = thread_of returning_main 2 ∷ [];
    }) 0
    (run_script answer (step >>= λ plan. plan.go []) (record { memory = start_memory returning (16 ∷ 32 ∷ []); statuses = Enabled ∷ []; holders = [] }, start_notes 0 2)))).verdict

main_returned : (run returning (own [] ∷ [])).verdict ≡ verdict.Undefined reason.MainReturned
unfolding run_of machine_step start_config returning
main_returned = ap verdict_of returning_step

-- ---- the bytes of globals

abbrev pointer : Pointer
pointer = record { addr = 4096; prov = Some (main_id 0) }

repeated : item_bytes [] [] (item.Byte 7 2) ≡ Init 7 None ∷ Init 7 None ∷ []
repeated = refl

uninitialised : item_bytes [] [] (item.Uninit 2) ≡ Uninit ∷ Uninit ∷ []
uninitialised = refl

-- each byte of a relocation has the provenance of the global
abbrev byte : ℕ → AbstractByte
byte b = Init b (Some (main_id 0))

relocated : item_bytes [] (pointer ∷ []) (item.Reloc (target.Global (record { 0 = 0 })) 3) ≡ byte 3 ∷ byte 16 ∷ byte 0 ∷ byte 0 ∷ byte 0 ∷ byte 0 ∷ byte 0 ∷ byte 0 ∷ []
relocated = refl

-- around the end of the address space
around : item_bytes (pointer ∷ []) [] (item.Reloc (target.Function (record { 0 = 0 })) 18446744073709551615) ≡ byte 255 ∷ byte 15 ∷ byte 0 ∷ byte 0 ∷ byte 0 ∷ byte 0 ∷ byte 0 ∷ byte 0 ∷ []
around = refl
