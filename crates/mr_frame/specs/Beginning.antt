-- What the code of a function's start needs and answers.
use Rattle.std.specs.Prelude.{◌≡◌, ℕ, ◌+◌, ◌<◌, ◌^◌, ◌++◌, All, List, [], ◌∷◌, length, None, Some, slice_get}
use Rattle.mr_ast.specs.declared.program.Function.{Function}
use Rattle.mr_ast.specs.declared.program.Local.{Local}
use Rattle.mr_ast.specs.declared.types.Ty.{Ty}
use Rattle.mr_base.specs.declared.byte.Kind.TheVariants.{Stack as OnStack}
use Rattle.mr_base.specs.declared.byte.Pointer.{Pointer}
use Rattle.mr_layout.specs.Sizes.{align_of, size_of}
use Rattle.mr_layout.specs.TypeOk.{TypeOk}
use Rattle.mr_mem.specs.Memory.{ranges_of}
use Rattle.mr_value.specs.declared.val.Val.{Val}
use Rattle.mr_base.specs.Script.{Outcome, Went, run}
use Rattle.mr_eval.specs.MemoryQueries.{Allocate, memory_answer}
use Rattle.mr_eval.specs.Shapes.{HaveShapes}
use Rattle.mr_eval.specs.World.{World}
use Rattle.mr_plan.specs.Legal.{picks_fault}
use Rattle.mr_frame.specs.declared.look.Look.{Look as KeptLook}
use Rattle.mr_frame.specs.Calling.{HasLocals}
use Rattle.mr_frame.specs.Calls.{allocate_each, behind_first, kept_types, storage_asks, store_each}
use Rattle.mr_frame.specs.Frames.{Frame, Stack}
use Rattle.mr_frame.specs.Kept.{IsReady}
use Rattle.mr_frame.specs.Standing.{IsUncounted}

-- The picks are lawful for these types, and the thread has no allocation with its count or a greater one, which is
-- below 2^63.
pub record CanAllocate (types : List Ty) (picks : List ℕ) (w : World) : Type 0 where
  pub lawful : picks_fault [] (ranges_of w.0) w.1.thread w.1.count (storage_asks types) picks ≡ None
  pub uncounted : IsUncounted w.0 w.1.thread w.1.count
  pub room : w.1.count + length types < 2 ^ 64

-- a function that can begin with these arguments
pub record CanBegin (look : KeptLook) (number : ℕ) (vs : List Val) (picks : List ℕ) (w : World) : Type 0 where
  pub ready : IsReady look
  pub function : Function
  pub there : slice_get look.program.now.functions number ≡ Some function
  pub types : List Ty
  pub typed : kept_types function ≡ Some types
  pub shapes : HaveShapes (behind_first types) vs
  pub allocates : CanAllocate types picks w

-- what a function keeps are locals of it, whose types break no rule
pub record HasTypes (fn : Function) : Type 0 where
  pub locals : HasLocals fn
  pub ok : All (λ (l : Local). TypeOk l.ty) fn.locals

-- one more allocation, whose pointer joins others
pub record IsAllocated (t : Ty) (addr : ℕ) (old new : World) (before after : List Pointer) : Type 0 where
  pub at : Pointer
  pub is : memory_answer (Allocate OnStack (size_of t) (align_of t) addr) old ≡ Went at new
  pub joins : after ≡ before ++ at ∷ []

-- The run came to a frame, and the stack is that frame alone, without payloads.
pub record IsBottom (o : Outcome Frame World) (s : Stack) (w : World) : Type 0 where
  pub frame : Frame
  pub went : o ≡ Went frame w
  pub is : s ≡ record { frames = frame ∷ []; payloads = [] }

-- ---- what they come to

unfoldable pub allocated_each : List Ty → List ℕ → World → Outcome (List Pointer) World
allocated_each types picks w = run memory_answer (allocate_each types picks) w

unfoldable pub stored_each : List Ty → List Pointer → List Val → World → Outcome (Unit {0}) World
stored_each types ps vs w = run memory_answer (store_each types ps vs) w
