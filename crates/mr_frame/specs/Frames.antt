-- Frames and stacks of frames, and what each step looks up. (MiniRust, lang: stack frames.)
use Rattle.std.specs.Prelude.{ℕ, suc, List, ◌∷◌, slice_set, Option, None}
use Rattle.mr_ast.specs.declared.program.Function.{Function}
use Rattle.mr_ast.specs.declared.program.Program.{Program}
use Rattle.mr_base.specs.declared.byte.Pointer.{Pointer}
use Rattle.mr_eval.specs.Evaluation.{Surround}

-- A call at work: its function, its locals' storage, the block and position where it goes on, and a result's place.
pub record Frame : Type 0 where
  pub function : ℕ
  pub locals : List (Option Pointer)
  pub block : ℕ
  pub at : ℕ
  pub call : Option Pointer

-- the frames of a thread, the top one first, and its payloads, the last one first
pub record Stack : Type 0 where
  pub frames : List Frame
  pub payloads : List Pointer

-- what every step of a run looks up: the program, and the pointers to its functions and its globals
pub record Look : Type 0 where
  pub program : Program
  pub functions : List Pointer
  pub globals : List Pointer

-- How a thread goes on: with such a stack; it ends; or the program does.
pub data Onward : Type 0 where
  GoesOn : (stack : Stack) → Onward
  EndsThread : (stack : Stack) → Onward
  Exits : Onward
  Aborts : Onward

-- the stack with such a top frame over those below
abbrev pub with_top : Stack → List Frame → Frame → Stack
with_top s below f = record s { frames = f ∷ below }

-- a frame behind its statement
abbrev pub behind_stmt : Frame → Frame
behind_stmt f = record f { at = suc f.at }

-- a frame with storage for a local, or none
abbrev pub with_storage : Frame → ℕ → Option Pointer → Frame
with_storage f x storage = record f { locals = slice_set f.locals x storage }

-- a frame at the start of a block, at no call
abbrev pub at_block : Frame → ℕ → Frame
at_block f b = record f { block = b; at = 0; call = None }

-- where the expressions of a frame of a function are evaluated
abbrev pub scene_in : Look → Function → Frame → Surround
scene_in look fn f =
    record { locals = fn.locals; storage = f.locals; functions = look.functions; globals = look.globals }
