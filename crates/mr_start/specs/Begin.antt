-- How a start is judged and made.
use Rattle.std.specs.Prelude.{◌≡◌, ℕ, ◌+◌, ◌^◌, ◌<◌, ◌≤◌, All, List, [], ◌∷◌, length, map, slice_get, take, Option}
use Rattle.std.specs.Prelude.{None, Some, Result, Ok, Err}
use Rattle.std.specs.FinMap as fin
use Rattle.mr_ast.specs.declared.program.Global_.{Global_}
use Rattle.mr_ast.specs.declared.program.Program.{Program}
use Rattle.mr_base.specs.declared.byte.AllocId.{AllocId}
use Rattle.mr_base.specs.declared.byte.Pointer.{Pointer}
use Rattle.mr_base.specs.declared.reason.Verdict.TheVariants.{Running}
use Rattle.mr_base.specs.declared.thread.Status.TheVariants.{Enabled}
use Rattle.mr_layout.specs.Cached.{IsCacheOf}
use Rattle.mr_mem.specs.Memory.{IsAsked, IsPowerOfTwo, Memory, ranges_of}
use Rattle.mr_typing.specs.Broken.{items_size}
use Rattle.mr_frame.specs.PlanLegal.{Fault, picks_fault}
use Rattle.mr_frame.specs.PlanMachine.{thread_of}
use Rattle.mr_frame.specs.PlanRuns.{Config}
use Rattle.mr_frame.specs.Frames.{Look, Stack}
use Rattle.mr_frame.specs.Kept.{stack_of}
use Rattle.mr_start.specs.Steps.{Own, new_thread}
use Rattle.mr_start.specs.declared.beginning.Entered.{Entered}
use Rattle.mr_start.specs.declared.beginning.Start.{Start}
use Rattle.mr_start.specs.declared.beginning.StartFault.{StartFault}
use Rattle.mr_start.specs.declared.beginning.StartFault.TheVariants as refused
use Rattle.mr_start.specs.declared.pieces.Piece.{Piece as Made}
use Rattle.mr_start.specs.declared.placing.Begun.{Begun}
use Rattle.mr_start.specs.Judging.{fault_of}
use Rattle.mr_start.specs.Start.{Piece, Placed, ask_of, look_of, pieces, placed, start_config, start_fault}
use Rattle.mr_start.specs.Start.{start_frame, start_placed}

-- a piece as the code has it
abbrev pub piece_of : Made → Piece
piece_of p = record { kind = p.kind; size = p.size; align = p.align }

-- the identity of an allocation of thread 0
abbrev pub own_id : ℕ → AllocId
own_id count = record { thread = 0; count = count }

-- a piece that memory can allocate
pub record IsPossible (p : Piece) : Type 0 where
  pub size : p.size < 2 ^ 63
  pub align : IsPowerOfTwo p.align
  pub asked : IsAsked p.kind p.size p.align

-- each global has at most 2^20 bytes
abbrev pub HaveRoom : List Global_ → Type 0
HaveRoom globals = All (λ g. items_size g.items ≤ 2 ^ 20) globals

-- the rule that the picks for these pieces break over a memory, behind so many allocations, if they break one
abbrev pub fault_over : Memory → ℕ → List Piece → List ℕ → Option Fault
fault_over m count pieces picks = picks_fault (Enabled ∷ []) (ranges_of m) 0 count (map ask_of pieces) picks

-- the same at the start
abbrev pub pieces_fault : List Piece → List ℕ → Option Fault
pieces_fault pieces picks = picks_fault (Enabled ∷ []) [] 0 0 (map ask_of pieces) picks

-- the pieces are allocated at the picks, in order
pub record IsPlaced (pieces : List Piece) (picks : List ℕ) (b : Begun) : Type 0 where
  pub memory : b.memory ≡ (placed fin.empty 0 pieces picks).memory
  pub pointers : b.pointers.items ≡ (placed fin.empty 0 pieces picks).pointers

-- the picks break no rule, or this one, unless memory ran out
abbrev pub JudgeAnswer : Option Fault → Result (Unit {0}) StartFault → Type 0
JudgeAnswer f (Ok u) = f ≡ None
JudgeAnswer f (Err (refused.Broken e)) = f ≡ Some (fault_of e)
JudgeAnswer f (Err refused.Memory) = Unit {0}

-- the pieces of the functions and globals, in front of that of the return local
abbrev pub before_frame : Program → ℕ
before_frame p = length p.functions + length p.globals

-- those are allocated
abbrev pub first_placed : Program → List ℕ → Placed
first_placed p picks = placed fin.empty 0 (take (before_frame p) (pieces p)) (take (before_frame p) picks)

abbrev pub IsBegun : Program → List ℕ → Begun → Type 0
IsBegun p picks b = IsPlaced (take (before_frame p) (pieces p)) (take (before_frame p) picks) b

-- the pointer to the return local, behind all allocations
abbrev pub return_pointer : Program → List ℕ → Option Pointer
return_pointer p picks = slice_get (start_placed p picks).pointers (before_frame p)

-- the main function is entered, behind all allocations
pub record IsEntered (p : Program) (picks : List ℕ) (e : Entered) : Type 0 where
  pub memory : e.memory ≡ (start_placed p picks).memory
  pub stack : stack_of e.stack ≡ (new_thread 0 (start_frame p (return_pointer p picks))).stack
  pub count : e.count ≡ length (pieces p)

-- where a machine stands before the first entry, with this memory, this stack of thread 0 and so many allocations of it
abbrev pub standing : Memory → Stack → ℕ → Config Own
standing m stack count = record {
  state = Some (record {
    shared = record { memory = m; statuses = Enabled ∷ []; holders = [] };
    threads = thread_of (record { thread = 0; stack = stack }) count ∷ [];
  });
  output = [];
  last = None;
  completed = 0;
  verdict = Running;
  about = None;
}

-- what each step of it looks up
abbrev pub looked : Program → Start → Look
looked p s = record { program = p; functions = s.functions.items; globals = s.globals.items }

-- THE START OF A RUN: what its steps look up, and where it stands before the first entry
pub record IsStart (p : Program) (picks : List ℕ) (s : Start) : Type 0 where
  pub look : looked p s ≡ look_of p picks
  pub cache : IsCacheOf s.cache p
  pub config : standing s.memory (stack_of s.stack) s.count ≡ start_config p picks

-- the start is made, or its picks break this rule, unless memory ran out
abbrev pub BeginAnswer : Program → List ℕ → Result Start StartFault → Type 0
BeginAnswer p picks (Ok s) = (start_fault p picks ≡ None) × IsStart p picks s
BeginAnswer p picks (Err (refused.Broken e)) = start_fault p picks ≡ Some (fault_of e)
BeginAnswer p picks (Err refused.Memory) = Unit {0}
