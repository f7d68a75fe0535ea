-- The storage of the locals of frames.
use Rattle.std.specs.Prelude.{List, [], ◌∷◌, ◌++◌, Option, None, Some, slice_get}
use Rattle.mr_ast.specs.declared.program.Function.{Function}
use Rattle.mr_ast.specs.declared.program.Local.{Local}
use Rattle.mr_ast.specs.declared.program.Program.{Program}
use Rattle.mr_ast.specs.declared.types.Ty.{Ty}
use Rattle.mr_base.specs.declared.byte.Pointer.{Pointer}
use Rattle.mr_layout.specs.Sizes.{align_of, size_of}
use Rattle.mr_plan.specs.Storage.{Slot}
use Rattle.mr_frame.specs.Frames.{Aborts, EndsThread, Exits, Frame, GoesOn, Onward}

-- room for a local of a type
abbrev pub slot_of : Ty → Option Pointer → Slot
slot_of t storage = record { size = size_of t; align = align_of t; storage = storage }

abbrev pub slots_in : List Local → List (Option Pointer) → List Slot
slots_in [] storage = []
slots_in (l ∷ ls) [] = []
slots_in (l ∷ ls) (storage ∷ rest) = slot_of l.ty storage ∷ slots_in ls rest

abbrev pub slots_with : Option Function → List (Option Pointer) → List Slot
slots_with None storage = []
slots_with (Some fn) storage = slots_in fn.locals storage

-- THE LOCALS OF FRAMES, the top one's first, in their functions' order, in front of others
abbrev pub frame_slots : Program → List Frame → List Slot → List Slot
frame_slots p [] others = others
frame_slots p (f ∷ below) others = slots_with (slice_get p.functions f.function) f.locals ++ frame_slots p below others

-- those of the frames with which a thread goes on
abbrev pub onward_slots : Program → Onward → List Slot → List Slot
onward_slots p (GoesOn s) others = frame_slots p s.frames others
onward_slots p (EndsThread s) others = frame_slots p s.frames others
onward_slots p Exits others = others
onward_slots p Aborts others = others
