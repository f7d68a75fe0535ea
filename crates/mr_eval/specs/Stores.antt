-- Stores, which change memory. (MiniRust, lang: typed accesses.)
use Rattle.std.specs.Prelude.{Bool, ℕ, false, true, List, length}
use Rattle.mr_ast.specs.declared.types.Ty.{Ty}
use Rattle.mr_base.specs.declared.byte.AbstractByte.{AbstractByte}
use Rattle.mr_base.specs.declared.byte.Pointer.{Pointer}
use Rattle.mr_layout.specs.Sizes.{align_of}
use Rattle.mr_mem.specs.Memory.{Memory, written}
use Rattle.mr_base.specs.declared.reached.Reaching.TheVariants.{Stores}
use Rattle.mr_base.specs.Script.{Outcome, Went}
use Rattle.mr_base.specs.Stops.{reached_by}
use Rattle.mr_value.specs.declared.val.Val.{Val}
use Rattle.mr_value.specs.Encode.{encoding_of}
use Rattle.mr_eval.specs.Reads.{Seen, accessing, answered, seeing, touching}

-- the store of bytes: the memory behind it, and what is noted then
abbrev pub storing : Memory → Bool → Pointer → List AbstractByte → ℕ → Seen → Outcome Memory Seen
storing m atomic p bytes align seen =
    answered (reached_by Stores p (length bytes)) (written m p bytes align)
    (λ new. Went new (seeing (accessing true atomic p (length bytes)) (touching p (length bytes)) seen))

-- the store of a value of a type
unfoldable pub stored_typed : Memory → Ty → Pointer → Val → Seen → Outcome Memory Seen
stored_typed m t p v seen = storing m false p (encoding_of t v) (align_of t) seen
