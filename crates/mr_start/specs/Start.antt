-- The start of a run: what it allocates, the bytes of the globals, and where the machine stands before the first entry.
use Rattle.std.specs.Prelude.{◌≡◌, ℕ, ◌+◌, List, [], ◌∷◌, ◌++◌, map, length, replicate, take, drop, slice_set, Option}
use Rattle.std.specs.Prelude.{None, Some, Result, Ok, Err, slice_get}
use Rattle.std.specs.List.{flat_map}
use Rattle.std.specs.FinMap as fin
use Rattle.mr_base.specs.declared.byte.AllocId.{AllocId}
use Rattle.mr_base.specs.declared.byte.Pointer.{Pointer}
use Rattle.mr_base.specs.declared.byte.AbstractByte.TheVariants.{Init}
use Rattle.mr_base.specs.declared.byte.Kind.{Kind}
use Rattle.mr_base.specs.declared.byte.Kind.TheVariants as kind
use Rattle.mr_base.specs.declared.reason.Reason.{Reason}
use Rattle.mr_base.specs.declared.reason.Verdict.TheVariants as verdict
use Rattle.mr_base.specs.declared.thread.Status.TheVariants.{Enabled}
use Rattle.mr_ast.specs.declared.program.Item_.{Item_}
use Rattle.mr_ast.specs.declared.program.Item_.TheVariants as item
use Rattle.mr_ast.specs.declared.program.Target.{Target}
use Rattle.mr_ast.specs.declared.program.Target.TheVariants as target
use Rattle.mr_ast.specs.declared.program.Global_.{Global_}
use Rattle.mr_ast.specs.declared.program.Local.{Local}
use Rattle.mr_ast.specs.declared.program.Function.{Function}
use Rattle.mr_ast.specs.declared.program.Program.{Program}
use Rattle.mr_layout.specs.Sizes.{size_of, align_of}
use Rattle.mr_mem.specs.Memory.{Memory, allocated, written}
use Rattle.mr_value.specs.Encode.{blank}
use Rattle.mr_value.specs.Numbers.{Bytes, pointer_bytes}
use Rattle.mr_typing.specs.Broken.{items_size}
use Rattle.mr_eval.specs.Moves.{behind}
use Rattle.mr_sched.specs.declared.schedule.Ask.{Ask}
use Rattle.mr_sched.specs.declared.schedule.Ask.TheVariants.{Address}
use Rattle.mr_frame.specs.PlanMachine.{thread_of}
use Rattle.mr_frame.specs.PlanLegal.{Fault, picks_fault}
use Rattle.mr_frame.specs.PlanRuns.{Config}
use Rattle.mr_frame.specs.Frames.{Frame, Look}
use Rattle.mr_start.specs.Steps.{Own, new_thread}

-- ---- what the start allocates

-- one allocation of the start
pub record Piece : Type 0 where
  pub kind : Kind
  pub size : ℕ
  pub align : ℕ

-- the allocation of a global
abbrev pub global_piece : Global_ → Piece
global_piece g = record { kind = kind.Static; size = items_size g.items; align = g.align }

-- a function takes an address and holds no byte
abbrev pub function_piece : Function → Piece
function_piece f = record { kind = kind.Function; size = 1; align = 1 }

-- the allocation of a local, where there is one
abbrev pub local_piece : Option Local → List Piece
local_piece None = []
local_piece (Some l) = (record { kind = kind.Stack; size = size_of l.ty; align = align_of l.ty }) ∷ []

-- the allocation of the returned local of the main function
abbrev pub return_piece : Option Function → List Piece
return_piece None = []
return_piece (Some f) = local_piece (slice_get f.locals f.ret.0)

-- one for each function, one for each global, and the return local of the main function
abbrev pub pieces : Program → List Piece
pieces p =
    map function_piece p.functions ++ (map global_piece p.globals ++ return_piece (slice_get p.functions p.start.0))

-- what the start asks for a piece: an address for its size and alignment
abbrev pub ask_of : Piece → Ask
ask_of piece = Address piece.size piece.align

-- the rule that the start line breaks, if it breaks one
unfoldable pub start_fault : Program → List ℕ → Option Fault
start_fault p picks = picks_fault (Enabled ∷ []) [] 0 0 (map ask_of (pieces p)) picks

-- ---- what it leads to

-- the memory in which some allocations are made, and the pointers to them
pub record Placed : Type 0 where
  pub memory : Memory
  pub pointers : List Pointer

-- thread 0 makes them in order, having made so many
abbrev pub placed : Memory → ℕ → List Piece → List ℕ → Placed
placed m count (piece ∷ pieces) (addr ∷ picks) =
    let id : AllocId = record { thread = 0; count = count } in
    let rest = placed (allocated m id piece.kind piece.size piece.align addr) (count + 1) pieces picks in
    let p : Pointer = record { addr = addr; prov = Some id } in
    record { memory = rest.memory; pointers = p ∷ rest.pointers }
placed m count [] picks = record { memory = m; pointers = [] }
placed m count (piece ∷ pieces) [] = record { memory = m; pointers = [] }

-- memory with all pieces at the picked addresses, and the pointers to them
abbrev pub start_placed : Program → List ℕ → Placed
start_placed p picks = placed fin.empty 0 (pieces p) picks

-- ---- the bytes of the globals

-- where the thing begins that a pointer in a global points to
abbrev pub target_of : List Pointer → List Pointer → Target → Option Pointer
target_of functions globals (target.Function f) = slice_get functions f.0
target_of functions globals (target.Global g) = slice_get globals g.0

-- the bytes of a pointer so many bytes behind; uninitialised ones where there is none
abbrev pub pointer_behind : Option Pointer → ℕ → Bytes
pointer_behind None offset = blank 8
pointer_behind (Some p) offset = pointer_bytes (behind p offset)

-- the bytes of an item of a global, given the addresses of functions and globals
abbrev pub item_bytes : List Pointer → List Pointer → Item_ → Bytes
item_bytes functions globals (item.Byte b count) = replicate count (Init b None)
item_bytes functions globals (item.Uninit count) = blank count
item_bytes functions globals (item.Reloc to offset) = pointer_behind (target_of functions globals to) offset

-- the bytes of a global
abbrev pub global_bytes : List Pointer → List Pointer → List Item_ → Bytes
global_bytes functions globals items = flat_map (item_bytes functions globals) items

-- the memory behind a store; behind a legal start line each can be made. No step notes it
abbrev pub behind_store : Memory → Result Memory Reason → Memory
behind_store m (Ok new) = new
behind_store m (Err r) = m

-- the memory in which each global has its bytes, from the pointers to functions and globals
abbrev pub filled : List Pointer → List Pointer → Memory → List Global_ → List Pointer → Memory
filled functions globals m [] ps = m
filled functions globals m (g ∷ gs) [] = m
filled functions globals m (g ∷ gs) (p ∷ ps) =
    filled functions globals (behind_store m (written m p (global_bytes functions globals g.items) g.align)) gs ps

-- the bytes of each global can be stored behind those of the globals before it
abbrev pub CanBeFilled : List Pointer → List Pointer → Memory → List Global_ → List Pointer → Type 0
CanBeFilled functions globals m [] ps = Unit {0}
CanBeFilled functions globals m (g ∷ gs) [] = ⊥
CanBeFilled functions globals m (g ∷ gs) (p ∷ ps) =
    (new : Memory) × (written m p (global_bytes functions globals g.items) g.align ≡ Ok new)
    × CanBeFilled functions globals new gs ps

-- what every step of the run looks up
unfoldable pub look_of : Program → List ℕ → Look
look_of p picks = record {
  program = p;
  functions = take (length p.functions) (start_placed p picks).pointers;
  globals = take (length p.globals) (drop (length p.functions) (start_placed p picks).pointers);
}

-- the memory before the first entry
abbrev pub start_memory : Program → List ℕ → Memory
start_memory p picks =
    filled (look_of p picks).functions
    (look_of p picks).globals (start_placed p picks).memory p.globals (look_of p picks).globals

-- each store of the start can be made
abbrev pub IsWholeStart : Program → List ℕ → Type 0
IsWholeStart p picks =
    CanBeFilled (look_of p picks).functions
    (look_of p picks).globals (start_placed p picks).memory p.globals (look_of p picks).globals

-- the return local has storage, and no other local
abbrev pub start_locals : Option Function → Option Pointer → List (Option Pointer)
start_locals None p = []
start_locals (Some f) p = slice_set (replicate (length f.locals) None) f.ret.0 p

-- the first frame of the main function, whose returned local has storage
abbrev pub start_frame : Program → Option Pointer → Frame
start_frame p ret = record {
  function = p.start.0;
  locals = start_locals (slice_get p.functions p.start.0) ret;
  block = 0;
  at = 0;
  call = None;
}

-- where the machine stands before the first entry
unfoldable pub start_config : Program → List ℕ → Config Own
start_config p picks =
    let made = start_placed p picks in
    record {
      state = Some (record {
        shared = record { memory = start_memory p picks; statuses = Enabled ∷ []; holders = [] };
        threads = thread_of
            (new_thread 0 (start_frame p (slice_get made.pointers (length p.functions + length p.globals))))
            (length (pieces p)) ∷ [];
      });
      output = [];
      last = None;
      completed = 0;
      verdict = verdict.Running;
      about = None;
    }
