-- What the frames of a thread keep, in a well-formed program.
use Rattle.std.specs.Prelude.{◌≡◌, ℕ, ◌≤◌, true, List, [], ◌∷◌, length, Option, None, Some, slice_get}
use Rattle.mr_ast.specs.declared.expr.Place.{Place}
use Rattle.mr_ast.specs.declared.expr.Value.{Value}
use Rattle.mr_ast.specs.declared.program.Block.{Block}
use Rattle.mr_ast.specs.declared.program.BlockName.{BlockName}
use Rattle.mr_ast.specs.declared.program.Function.{Function}
use Rattle.mr_ast.specs.declared.program.Program.{Program}
use Rattle.mr_ast.specs.declared.program.Term.TheVariants as term
use Rattle.mr_ast.specs.declared.types.Ty.{Ty}
use Rattle.mr_base.specs.declared.byte.Pointer.{Pointer}
use Rattle.mr_typing.specs.Types.{type_of_place}
use Rattle.mr_eval.specs.MemoryQueries.{MemoryScript}
use Rattle.mr_plan.specs.Machine.{Plan}
use Rattle.mr_plan.specs.Safety.{IsSafeChange}
use Rattle.mr_frame.specs.Calls.{local_type}
use Rattle.mr_frame.specs.Frames.{Aborts, EndsThread, Exits, Frame, GoesOn, Look, Onward, Stack}
use Rattle.mr_frame.specs.Sites.{keeps_storage}

-- The frame is one of a function of the program: it has a storage or none for each local, storage for those that are
-- kept, and its block and position exist.
pub record FitsFrame (p : Program) (f : Frame) : Type 0 where
  pub function : Function
  pub is : slice_get p.functions f.function ≡ Some function
  pub locals : length f.locals ≡ length function.locals
  pub kept : keeps_storage function f ≡ true
  pub block : Block
  pub here : slice_get function.blocks f.block ≡ Some block
  pub at : f.at ≤ length block.stmts

-- The frame stands at a call whose result has this type, and keeps the place for it.
pub record IsCalling (p : Program) (result : Option Ty) (f : Frame) : Type 0 where
  pub fits : FitsFrame p f
  pub end : f.at ≡ length fits.block.stmts
  pub callee : Value
  pub args : List Value
  pub place : Place
  pub next : Option BlockName
  pub unwind : Option BlockName
  pub term : fits.block.term ≡ term.Call callee args place next unwind
  pub typed : type_of_place fits.function.locals place ≡ result
  pub kept_place : Pointer
  pub keeps : f.call ≡ Some kept_place

-- each frame below stands at a call of the function of the frame above it, which gives this result
abbrev pub AreCalling : Program → Option Ty → List Frame → Type 0
AreCalling p result [] = Unit {0}
AreCalling p result (f ∷ below) =
    (c : IsCalling p result f) × AreCalling p (local_type c.fits.function c.fits.function.ret) below

-- a thread's frames: a top one that stands at no call, and those below it
abbrev pub FitFrames : Program → List Frame → Type 0
FitFrames p [] = ⊥
FitFrames p (f ∷ below) =
    (top : FitsFrame p f) × (f.call ≡ None) × AreCalling p (local_type top.function top.function.ret) below

-- THE FRAMES OF A THREAD that hasn't ended
abbrev pub FitsStack : Program → Stack → Type 0
FitsStack p s = FitFrames p s.frames

-- behind a step they are so again, and a thread that ended has none
abbrev pub FitsOnward : Program → Onward → Type 0
FitsOnward p (GoesOn s) = FitsStack p s
FitsOnward p (EndsThread s) = s.frames ≡ []
FitsOnward p Exits = Unit {0}
FitsOnward p Aborts = Unit {0}

-- there is a pointer for each function and each global
pub record IsLook (look : Look) : Type 0 where
  pub functions : length look.functions ≡ length look.program.functions
  pub globals : length look.globals ≡ length look.program.globals

-- whatever picks a plan gets for what it asks, its steps are never ill-formed, and the frames fit again
abbrev pub IsSafePlan : Program → Plan (MemoryScript Onward) → Type 0
IsSafePlan p plan = (picks : List ℕ) → length picks ≡ length plan.asks → IsSafeChange (FitsOnward p) (plan.go picks)
