-- Where the code of a thread stands.
use Rattle.std.specs.Prelude.{◌≡◌, ℕ, ◌+◌, ◌<◌, ◌≤◌, ◌^◌, All, List, length, slice_get, None, Some}
use Rattle.std.specs.FinMap as fin
use Rattle.mr_ast.specs.declared.program.Block.{Block}
use Rattle.mr_ast.specs.declared.program.Function.{Function}
use Rattle.mr_ast.specs.declared.program.Local.{Local}
use Rattle.mr_ast.specs.declared.program.LocalName.{LocalName}
use Rattle.mr_ast.specs.declared.program.Program.{Program}
use Rattle.mr_base.specs.declared.byte.AllocId.{AllocId}
use Rattle.mr_layout.specs.Sizes.{align_of, size_of}
use Rattle.mr_layout.specs.TypeOk.{TypeOk}
use Rattle.mr_mem.specs.Memory.{IsPowerOfTwo, Memory, pick_fault}
use Rattle.mr_eval.specs.MemoryQueries.{next_id}
use Rattle.mr_eval.specs.World.{tally_of}
use Rattle.mr_eval.specs.declared.scene.Scene.{Scene}
use Rattle.mr_frame.specs.declared.slot.Slot.{Slot}
use Rattle.mr_frame.specs.declared.look.Look.{Look as KeptLook}
use Rattle.mr_frame.specs.declared.stack.Stack.{Stack as KeptStack}
use Rattle.mr_frame.specs.declared.frame.Next.{Next}
use Rattle.mr_frame.specs.declared.frame.Next.TheVariants as next
use Rattle.mr_frame.specs.Calls.{local_type}
use Rattle.mr_frame.specs.Fits.{AreCalling, FitsFrame}
use Rattle.mr_frame.specs.Frames.{Frame}
use Rattle.mr_frame.specs.Kept.{IsReady, below_of, frame_of}
use Rattle.mr_frame.specs.Sites.{AtStatement, Due, due_of, due_term}

-- The top frame fits over those below, and this is due there.
pub record StandsAt (p : Program) (f : Frame) (below : List Frame) (due : Due) : Type 0 where
  pub fits : FitsFrame p f
  pub bare : f.call ≡ None
  pub calling : AreCalling p (local_type fits.function fits.function.ret) below
  pub is : due_of (record { function = fits.function; block = fits.block; frame = f; below = below }) ≡ Some due

-- the same with what is looked up
pub record IsDue (look : KeptLook) (s : KeptStack) (due : Due) : Type 0 where
  pub ready : IsReady look
  pub stands : StandsAt look.program.now (frame_of s.top) (below_of s) due

-- The local is one of the top frame's function, the types of whose locals break no rule, and has a storage or none.
pub record Holds (look : KeptLook) (s : KeptStack) (x : LocalName) : Type 0 where
  pub function : Function
  pub there : slice_get look.program.now.functions s.top.function ≡ Some function
  pub types : All (λ (l : Local). TypeOk l.ty) function.locals
  pub inside : x.0 < length function.locals
  pub locals : length s.top.locals.items ≡ length function.locals

-- what the code finds of a local: its size and alignment, and its storage
pub record IsSlot (fn : Function) (f : Frame) (x : LocalName) (slot : Slot) : Type 0 where
  pub local : Local
  pub there : slice_get fn.locals x.0 ≡ Some local
  pub stored : slice_get f.locals x.0 ≡ Some slot.storage
  pub size : slot.size ≡ size_of local.ty
  pub align : slot.align ≡ align_of local.ty
  pub small : slot.size < 2 ^ 63
  pub power : IsPowerOfTwo slot.align

-- the statement of this block at a position, or behind the last one its terminator
abbrev pub IsAt : Block → ℕ → Next → Type 0
IsAt b at (next.Statement s) = slice_get b.stmts at ≡ Some s.now
IsAt b at (next.Terminator t) = (at ≡ length b.stmts) × (b.term ≡ t.now)

-- what is due, as the code finds it
abbrev pub due_in : Next → Due
due_in (next.Statement s) = AtStatement s.now
due_in (next.Terminator t) = due_term t.now

-- the thread has no allocation with this count or a greater one
abbrev pub IsUncounted : Memory → ℕ → ℕ → Type 0
IsUncounted m thread count = (id : AllocId) → id.thread ≡ thread → count ≤ id.count → fin.get m id ≡ None

-- A picked address is lawful for a local's storage, and the next identity is new.
pub record CanRenew (slot : Slot) (addr : ℕ) (s : Scene) : Type 0 where
  pub lawful : pick_fault s.memory addr slot.size slot.align ≡ None
  pub new : fin.get s.memory (next_id (tally_of s)) ≡ None
  pub few : s.count + 1 < 2 ^ 64
  pub small : slot.size < 2 ^ 63
  pub power : IsPowerOfTwo slot.align
